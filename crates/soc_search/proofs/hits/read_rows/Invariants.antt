use Rattle.std.proofs.Common.{◌≡◌, ◌+◌, map, take}
use Rattle.std.specs.List.{filter_map}
use Rattle.soc_search.specs.inner.Selections.{row_of}
use Rattle.soc_search.proofs.hits.read_rows.Given as goal

abbrev pub invariant-loop-place : goal.invariant-loop-place
invariant-loop-place g l =
    (map (λ row. row.now) l.rows.items ≡ filter_map (row_of l.store) (take l.place-index l.places))
    × (l.steps ≡ l.fn.steps + l.place-index)
