use Rattle.std.proofs.Common.{inl, subst}
use Rattle.soc_replay.specs.inner.Refusals.{RefusesText}
use Rattle.soc_replay.proofs.ExportLemmas.{file_refused, still_asks}
use Rattle.soc_replay.proofs.export.export.Goals as goal

pub returns-in-Err-Refused-clause-exports : goal.returns-in-Err-Refused-clause-exports
returns-in-Err-Refused-clause-exports g c =
    let still = c.in-Err-Refused.ensures.before in
    file_refused _ _ c.in-Err-Refused.refusal c.refuse_text.result (rw c.in-Err-Refused.field-0-is at c.in-Err-Refused.ensures.fault)
    (record { draws = still.quiet.draws; disk = still.quiet.disk })
    (subst (λ s. RefusesText s (g.X.Tells.told c.refuse_text.new.output) c.in-Err-Refused.refusal c.refuse_text.result) still.streams c.refuse_text.ensures.refuses)

pub returns-in-Err-NoMemory-clause-exports : goal.returns-in-Err-NoMemory-clause-exports
returns-in-Err-NoMemory-clause-exports g c = inl (still_asks _ _ c.in-Err-NoMemory.ensures.before)
