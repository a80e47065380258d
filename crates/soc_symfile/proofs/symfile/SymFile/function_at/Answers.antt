use Rattle.std.proofs.Common.{map}
use Rattle.soc_symfile.specs.inner.Tables.{owner_address}
use Rattle.soc_symfile.proofs.FoundLemmas.{owner-none, owner-covers, owner-ends}
use Rattle.soc_symfile.proofs.symfile.SymFile.function_at.Goals as goal

pub returns-in_err-at : goal.returns-in_err-at
returns-in_err-at c =
    let index = rw (← c.as_slice.ensures.value) at c.self.invariant.functions in
    rw (c.from_residual.ensures, ← c.self.view_is)
    (owner-none c.self.inside.tables.functions c.args.offset (c.in_err-at.ensures (map owner_address c.self.inside.tables.functions) index))

pub returns-then-covers : goal.returns-then-covers
returns-then-covers c =
    let index = rw (← c.as_slice.ensures.value) at c.self.invariant.functions in
    rw (← c.self.view_is)
    (owner-covers c.self.inside.tables.functions c.args.offset c.in_ok-at.at _ (c.in_ok-at.ensures (map owner_address c.self.inside.tables.functions) index) c.function-function.ensures c.if-covers.ensures)

pub returns-else-covers : goal.returns-else-covers
returns-else-covers c =
    let index = rw (← c.as_slice.ensures.value) at c.self.invariant.functions in
    rw (← c.self.view_is)
    (owner-ends c.self.inside.tables.functions c.args.offset c.in_ok-at.at _ (c.in_ok-at.ensures (map owner_address c.self.inside.tables.functions) index) c.function-function.ensures c.if-covers.ensures)
