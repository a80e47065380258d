use Rattle.std.proofs.Common.{length, arith, ap}
use Rattle.soc_raw.specs.RawCrash.{crash_of}
use Rattle.soc_raw.proofs.Lengths.{head_length, head_fits, content_at}
use Rattle.soc_raw.proofs.raw_crash.RawCrash.content_place.Goals as goal

pub overflow_add-result-4 : goal.overflow_add-result-4
overflow_add-result-4 c =
    omega (arith, head_fits (crash_of c.args.self.now) c.args.self.now.fits, ap length c.as_str-id.ensures.text, ap length c.as_str-rule.ensures)

pub returns-clause-place : goal.returns-clause-place
returns-clause-place c =
    omega (arith, head_length (crash_of c.args.self.now), ap length c.as_str-id.ensures.text, ap length c.as_str-rule.ensures)

pub returns-clause-content : goal.returns-clause-content
returns-clause-content c = content_at (crash_of c.args.self.now) _ (returns-clause-place c)
