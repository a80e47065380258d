use Rattle.std.proofs.Common.{map}
use Rattle.soc_symfile.specs.inner.Tables.{label_address}
use Rattle.soc_symfile.proofs.FoundLemmas.{public-none, public-hidden, public-shown}
use Rattle.soc_symfile.proofs.symfile.SymFile.public_at.Goals as goal

pub returns-in_err-at : goal.returns-in_err-at
returns-in_err-at c =
    let index = rw (← c.as_slice.ensures.value) at c.self.invariant.publics in
    rw (c.from_residual.ensures, ← c.self.view_is)
    (public-none c.self.inside.tables c.args.offset (c.in_err-at.ensures (map label_address c.self.inside.tables.publics) index))

pub returns-then-is_hidden : goal.returns-then-is_hidden
returns-then-is_hidden c =
    let index = rw (← c.as_slice.ensures.value) at c.self.invariant.publics in
    let near = c.in_ok-at.ensures (map label_address c.self.inside.tables.publics) index in
    rw (← c.self.view_is) (public-hidden c.self.inside.tables c.args.offset c.in_ok-at.at _ near c.public-label.ensures (rw (← c.self.view_is) at c.if-is_hidden.ensures))

pub returns-else-is_hidden : goal.returns-else-is_hidden
returns-else-is_hidden c =
    let index = rw (← c.as_slice.ensures.value) at c.self.invariant.publics in
    let near = c.in_ok-at.ensures (map label_address c.self.inside.tables.publics) index in
    rw (← c.self.view_is) (public-shown c.self.inside.tables c.args.offset c.in_ok-at.at _ near c.public-label.ensures (rw (← c.self.view_is) at c.if-is_hidden.ensures))
