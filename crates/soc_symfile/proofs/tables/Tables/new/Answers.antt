use Rattle.soc_symfile.proofs.TableLemmas.{none_held}
use Rattle.soc_symfile.proofs.tables.Tables.new.Goals as goal

pub returns : goal.returns
returns c = none_held _ _ _ _ _ _ c.new.ensures.items c.new-2.ensures.items c.new-3.ensures.items c.new-4.ensures.items c.new-5.ensures.items c.new-6.ensures.items
