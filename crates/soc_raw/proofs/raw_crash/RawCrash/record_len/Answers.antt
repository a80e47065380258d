use Rattle.std.proofs.Common.{length, arith, ap}
use Rattle.soc_raw.specs.RawCrash.{crash_of}
use Rattle.soc_raw.proofs.Lengths.{head_fits, pairs_fit, whole_length}
use Rattle.soc_raw.proofs.raw_crash.RawCrash.record_len.Goals as goal

pub overflow_add-head-4 : goal.overflow_add-head-4
overflow_add-head-4 c =
    omega (arith, head_fits (crash_of c.args.self.now) c.args.self.now.fits, ap length c.as_str.ensures.text, ap length c.as_str-2.ensures)

pub len_of_texts-requires : goal.len_of_texts-requires
len_of_texts-requires c = (pairs_fit (crash_of c.args.self.now) c.args.self.now.fits).0

pub len_of_blobs-requires : goal.len_of_blobs-requires
len_of_blobs-requires c = (pairs_fit (crash_of c.args.self.now) c.args.self.now.fits).1

pub overflow_add-result : goal.overflow_add-result
overflow_add-result c =
    let fits = c.args.self.now.fits in
    omega (arith, whole_length (crash_of c.args.self.now), fits, ap length c.as_str.ensures.text, ap length c.as_str-2.ensures, c.len_of_texts.ensures)

pub overflow_add-result-2 : goal.overflow_add-result-2
overflow_add-result-2 c =
    let fits = c.args.self.now.fits in
    omega (arith, whole_length (crash_of c.args.self.now), fits, ap length c.as_str.ensures.text, ap length c.as_str-2.ensures, c.len_of_texts.ensures, c.len_of_blobs.ensures)

pub returns : goal.returns
returns c =
    omega (arith, whole_length (crash_of c.args.self.now), ap length c.as_str.ensures.text, ap length c.as_str-2.ensures, c.len_of_texts.ensures, c.len_of_blobs.ensures)
