use Rattle.std.proofs.Common.{◌∙◌}
use Rattle.std.proofs.lemmas.Result.{IfOk-weaker}
use Rattle.soc_dump.proofs.TableLemmas.{module_found}
use Rattle.soc_dump.proofs.dump.Dump.module_table.Goals as goal

pub returns : goal.returns
returns c =
    let found = rw (c.as_slice-2.ensures.value, c.in_ok-intervals.ensures, c.as_slice.ensures.value) at c.new.ensures in
    rw (← c.self.view_is) (IfOk-weaker c.new.result _ _ (λ table answers address small. answers address small ∙ module_found c.self.inside.modules.items address small) found)
