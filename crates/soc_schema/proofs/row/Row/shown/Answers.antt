use Rattle.std.proofs.Common.{sym, subst, ◌∙◌, take}
use Rattle.std.proofs.lemmas.List.{take_all}
use Rattle.soc_schema.specs.Rows.{RisesFrom}
use Rattle.soc_schema.proofs.SightLemmas.{granted_rises}
use Rattle.soc_schema.proofs.row.Row.shown.Goals as goal

pub invariant_of-result : goal.invariant_of-result
invariant_of-result c =
    let whole = take_all c.loop-cell.cell-index c.deref-cell-items.result.now c.loop-cell-test.false ∙ c.deref-cell-items.ensures.value in
    subst (λ t. RisesFrom 0 t) (sym c.loop-cell.invariant)
    (granted_rises c.args.caller.now 0 (take c.loop-cell.cell-index c.deref-cell-items.result.now) (subst (λ t. RisesFrom 0 t) (sym whole) c.self.invariant))
