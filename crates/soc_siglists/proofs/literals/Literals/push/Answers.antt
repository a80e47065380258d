use Rattle.std.proofs.Common.{◌∙◌, sym, ap}
use Rattle.soc_siglists.specs.inner.Literals.{IsUpTo}
use Rattle.soc_siglists.proofs.Fronts.{covered, apart_with, all_with, up_to_itself}
use Rattle.soc_siglists.proofs.literals.Literals.push.Goals as goal

pub returns-then-begins_with_last-clause-begun : goal.returns-then-begins_with_last-clause-begun
returns-then-begins_with_last-clause-begun c =
    rw c.self.view_is at (covered c.self.inside.texts.items c.args.text (rw (c.deref.ensures.value, c.as_str.ensures) at (sym c.if-begins_with_last.ensures)))

pub invariant_of-self-2 : goal.invariant_of-self-2
invariant_of-self-2 c =
    rw c.in_ok-push.ensures.items
    (apart_with c.self.inside.texts.items c.args.text c.self.invariant (rw c.self.view_is c.requires) (rw (c.deref.ensures.value, c.as_str.ensures) at (sym c.if-begins_with_last.ensures)))

pub returns-clause-up_to : goal.returns-clause-up_to
returns-clause-up_to c =
    rw c.in_ok-push.ensures.items (all_with (IsUpTo c.args.text) c.self.inside.texts.items c.args.text (rw c.self.view_is c.requires) (up_to_itself c.args.text))
