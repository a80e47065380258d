use Rattle.soc_symfile.proofs.TableLemmas.{function_there}
use Rattle.soc_symfile.proofs.tables.Tables.function.Goals as goal

pub returns : goal.returns
returns c = rw (← c.self.view_is, ← c.as_slice.ensures.value, ← c.as_slice-2.ensures.value) (function_there _ _ _ _ c.owned_at.ensures)
