use Rattle.std.proofs.Common.{◌≡◌, ◌+◌, take}
use Rattle.std.specs.List.{filter}
use Rattle.soc_tops.specs.Tops.{is_asked}
use Rattle.soc_search.proofs.RowLemmas.{passes_at}
use Rattle.soc_search.proofs.rows.rows_among.Given as goal

abbrev pub invariant-loop-place : goal.invariant-loop-place
invariant-loop-place g l =
    (l.found.places.items ≡ filter (passes_at (is_asked l.query l.query.days) l.store) (take l.place-index l.places))
    × (l.found.old_places.items ≡ filter (passes_at (is_asked l.query l.query.old_days) l.store) (take l.place-index l.places))
    × (l.steps ≡ l.fn.steps + l.place-index)
