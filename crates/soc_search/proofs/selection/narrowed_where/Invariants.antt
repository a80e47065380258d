use Rattle.std.proofs.Common.{◌≡◌, Bool, List, true, false, take, get_or, length}
use Rattle.std.specs.Prelude.{◌&&◌}
use Rattle.std.specs.List.{list_all}
use Rattle.soc_schema.specs.declared.value.Cell.{Cell}
use Rattle.soc_search.specs.inner.Selections.{Finds, is_turn, meets_where}
use Rattle.soc_search.proofs.selection.narrowed_where.Given as goal

abbrev pub invariant-loop-condition : goal.invariant-loop-condition
invariant-loop-condition l =
    ((test : List Cell → Bool) → Finds l.fn.found test l.store → Finds l.found (λ row. test row && meets_where (λ f. get_or l.met f false && is_turn l.exact f l.conditions) l.conditions row) l.store)
    × (list_all (λ c. get_or l.met c.field false) (take l.condition-index l.conditions) ≡ true)
    × (length l.met ≡ 36)
