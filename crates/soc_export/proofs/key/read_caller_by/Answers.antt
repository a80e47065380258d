use Rattle.std.proofs.Common.{◌∙◌}
use Rattle.soc_export.proofs.KeyLemmas.{asked_by}
use Rattle.soc_export.proofs.key.read_caller_by.Goals as goal

pub returns-in-Ok-caller_by_line-clause-asks : goal.returns-in-Ok-caller_by_line-clause-asks
returns-in-Ok-caller_by_line-clause-asks g c =
    asked_by _ _ _ _ _ _ _ c.read_line.ensures.only c.in-Ok.ensures.line c.in-Ok-caller_by_line.ensures (c.read_line.auto.line ∙ c.requires)
