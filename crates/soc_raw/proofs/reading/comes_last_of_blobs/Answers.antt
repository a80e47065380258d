use Rattle.std.proofs.Common.{arith, sym, ap, ◌∙◌}
use Rattle.soc_raw.specs.inner.Reading.{is_above}
use Rattle.soc_raw.proofs.Readers.{last_none, last_some}
use Rattle.soc_raw.proofs.reading.comes_last_of_blobs.Goals as goal

pub returns-then-count-eq0-clause-above : goal.returns-then-count-eq0-clause-above
returns-then-count-eq0-clause-above c = sym (ap (λ l. is_above l c.args.name.now) (last_none c.args.blobs.now (omega arith)))

pub returns-clause-above : goal.returns-clause-above
returns-clause-above c = c.comes_after.ensures ∙ sym (ap (λ l. is_above l c.args.name.now) (last_some c.args.blobs.now _ _ _ (omega arith) c.at.ensures))
