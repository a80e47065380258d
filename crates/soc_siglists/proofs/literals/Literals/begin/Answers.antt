use Rattle.std.proofs.Common.{◌∙◌, ap}
use Rattle.soc_siglists.specs.inner.Literals.{begins_with_one}
use Rattle.soc_siglists.proofs.Fronts.{look_up}
use Rattle.soc_siglists.proofs.literals.Literals.begin.Goals as goal

pub returns : goal.returns
returns c =
    let found = rw c.deref.ensures.value at c.count_to-count.ensures in
    rw c.deref-2.ensures.value at c.begins_with_last.ensures
    ∙ look_up c.self.inside.texts.items c.args.frame.now c.count_to-count.result c.self.invariant found.bound found.front found.back
    ∙ ap (λ ts. begins_with_one ts c.args.frame.now) c.self.view_is
