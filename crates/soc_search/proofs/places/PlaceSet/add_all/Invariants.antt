use Rattle.std.proofs.Common.{◌≡◌, ◌||◌, ℕ, nat_eq, take}
use Rattle.std.specs.List.{list_any}
use Rattle.soc_search.specs.inner.Places.{has}
use Rattle.soc_search.proofs.places.PlaceSet.add_all.Given as goal

abbrev pub invariant-loop-place : goal.invariant-loop-place
invariant-loop-place l = (p : ℕ) → has l.self p ≡ (has l.initial.self p || list_any (λ q. nat_eq p q) (take l.place-index l.places))
