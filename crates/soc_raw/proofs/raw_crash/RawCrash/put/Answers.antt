use Rattle.std.proofs.Common.{length, arith, ap, ◌∙◌}
use Rattle.soc_raw.specs.RawCrash.{crash_of}
use Rattle.soc_raw.proofs.Lengths.{rule_fits, pairs_fit, encoded, further}
use Rattle.soc_raw.proofs.raw_crash.RawCrash.put.Goals as goal

pub put_counted-requires : goal.put_counted-requires
put_counted-requires c =
    omega (arith, rule_fits (crash_of c.args.self.now) c.args.self.now.fits, ap length (c.as_bytes-2.ensures.value ∙ c.as_str-2.ensures))

pub put_texts-requires-clause-fits : goal.put_texts-requires-clause-fits
put_texts-requires-clause-fits c = (pairs_fit (crash_of c.args.self.now) c.args.self.now.fits).0

pub put_blobs-requires-clause-fits : goal.put_blobs-requires-clause-fits
put_blobs-requires-clause-fits c = (pairs_fit (crash_of c.args.self.now) c.args.self.now.fits).1

pub returns-clause-record : goal.returns-clause-record
returns-clause-record c =
    encoded (crash_of c.args.self.now) _ _ _ _ _ _ _ _ _ c.as_bytes.result.now c.as_bytes-2.result.now
    (c.as_bytes.ensures.value ∙ c.as_str.ensures.text) (c.as_bytes-2.ensures.value ∙ c.as_str-2.ensures)
    c.in_ok-put_bytes.ensures.written
    c.to_le_bytes.ensures c.in_ok-put_bytes-2.ensures.written
    c.to_le_bytes-2.ensures c.in_ok-put_bytes-3.ensures.written
    c.in_ok-put_counted.ensures.written c.in_ok-put_texts.ensures.written c.in_ok-put_blobs.ensures.written

pub returns-in_err-put_bytes-2-clause-front : goal.returns-in_err-put_bytes-2-clause-front
returns-in_err-put_bytes-2-clause-front c = further _ _ _ c.put_bytes.ensures.front c.put_bytes-2.ensures.front

pub returns-in_err-put_bytes-3-clause-front : goal.returns-in_err-put_bytes-3-clause-front
returns-in_err-put_bytes-3-clause-front c = further _ _ _ (further _ _ _ c.put_bytes.ensures.front c.put_bytes-2.ensures.front) c.put_bytes-3.ensures.front

pub returns-in_err-put_counted-clause-front : goal.returns-in_err-put_counted-clause-front
returns-in_err-put_counted-clause-front c = further _ _ _ (further _ _ _ (further _ _ _ c.put_bytes.ensures.front c.put_bytes-2.ensures.front) c.put_bytes-3.ensures.front) c.put_counted.ensures.front

pub returns-in_err-put_texts-clause-front : goal.returns-in_err-put_texts-clause-front
returns-in_err-put_texts-clause-front c = further _ _ _ (further _ _ _ (further _ _ _ (further _ _ _ c.put_bytes.ensures.front c.put_bytes-2.ensures.front) c.put_bytes-3.ensures.front) c.put_counted.ensures.front) c.put_texts.ensures.front

pub returns-in_err-put_blobs-clause-front : goal.returns-in_err-put_blobs-clause-front
returns-in_err-put_blobs-clause-front c = further _ _ _ (further _ _ _ (further _ _ _ (further _ _ _ (further _ _ _ c.put_bytes.ensures.front c.put_bytes-2.ensures.front) c.put_bytes-3.ensures.front) c.put_counted.ensures.front) c.put_texts.ensures.front) c.put_blobs.ensures.front

pub returns-clause-front : goal.returns-clause-front
returns-clause-front c = further _ _ _ (further _ _ _ (further _ _ _ (further _ _ _ (further _ _ _ c.put_bytes.ensures.front c.put_bytes-2.ensures.front) c.put_bytes-3.ensures.front) c.put_counted.ensures.front) c.put_texts.ensures.front) c.put_blobs.ensures.front
