use Rattle.std.proofs.Common.{map}
use Rattle.soc_symfile.specs.inner.Tables.{owner_address}
use Rattle.soc_symfile.proofs.FoundLemmas.{hidden-some, hidden-none}
use Rattle.soc_symfile.proofs.symfile.SymFile.is_hidden.Goals as goal

pub returns-in-Some : goal.returns-in-Some
returns-in-Some c =
    let index = rw (← c.as_slice.ensures.value) at c.self.invariant.functions in
    let near = c.in-Some.ensures (map owner_address c.self.inside.tables.functions) index in
    rw (← c.self.view_is) (hidden-some c.self.inside.tables c.args.offset c.args.address c.in-Some.at _ near c.function.ensures)

pub returns-in-None : goal.returns-in-None
returns-in-None c =
    let index = rw (← c.as_slice.ensures.value) at c.self.invariant.functions in
    let above = c.in-None.ensures (map owner_address c.self.inside.tables.functions) index in
    rw (← c.self.view_is) (hidden-none c.self.inside.tables c.args.offset c.args.address above)
