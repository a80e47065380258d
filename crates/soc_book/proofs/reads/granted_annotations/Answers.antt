use Rattle.std.proofs.Common.{sym, ap, ◌∙◌}
use Rattle.soc_book.proofs.Words.{permission_of_annotation, holds}
use Rattle.soc_desk.proofs.Granted.{keeps}
use Rattle.soc_book.proofs.reads.granted_annotations.Goals as goal

pub loop-name-preserved-in_ok-set : goal.loop-name-preserved-in_ok-set
loop-name-preserved-in_ok-set c =
    let permissions = c.args.caller.now.permissions in
    keeps (λ pair. holds permissions (permission_of_annotation pair.0)) c.args.annotations.now c.loop-name.shown c.loop-name.name-iterator c.next.new.self c.set.new.self c.in-Some.name.now c.in_ok-of.field-0 c.in-Some.value.now c.in_ok-of-2.field-0
    c.into_iter-name-iterator.ensures.into_iter_gives.1 c.in-Some.ensures.steps c.in_ok-of.ensures c.in_ok-of-2.ensures
    (ap (holds permissions) (sym c.permission_of.ensures) ∙ (sym c.has.ensures ∙ c.if-has.true)) c.in_ok-set.ensures.ok c.loop-name.invariant
