-- Lists with one element a key, in rising order of keys.
use Rattle.std.specs.Prelude.{◌≡◌, ℕ, ◌<◌, ◌≤◌, length, Result, MatchResult, List, [], ◌∷◌, ◌++◌, Option, None, Some, cond, ⊤}
use Rattle.std.specs.declared.cmp.Ordering.{Ordering}
use Rattle.std.specs.declared.cmp.Ordering.TheVariants.{Less, Equal, Greater}
use Rattle.std.specs.Ordering.{match_ordering, is_eq}
use Rattle.std.specs.Option.{option_to_list}
use Rattle.std.specs.List.{AllByRecursion, HoldsAt}
use Rattle.std.specs.List.Sorted.{IsPartitionPoint}

module _ {E K : Type 0} (key : E → K) (R : K → K → Ordering) where
  -- the list with what `make` gives of the element at k, or of none, in its place
  abbrev pub alter : K → (Option E → E) → List E → List E
  alter k make [] = make None ∷ []
  alter k make (e ∷ es) = match_ordering (R k (key e)) (make None ∷ e ∷ es) (make (Some e) ∷ es) (e ∷ alter k make es)

  -- the list with what `shrink` leaves of the element at k
  abbrev pub prune : K → (E → Option E) → List E → List E
  prune k shrink [] = []
  prune k shrink (e ∷ es) = match_ordering (R k (key e)) (e ∷ es) (option_to_list (shrink e) ++ es) (e ∷ prune k shrink es)

  -- each key is below those after it
  abbrev pub Rising : List E → Type 0
  Rising [] = ⊤
  Rising (e ∷ es) = AllByRecursion (λ x. R (key e) (key x) ≡ Less) es × Rising es

  -- the element at k, if there is one
  abbrev pub at_key : K → List E → Option E
  at_key k [] = None
  at_key k (e ∷ es) = cond (is_eq (R k (key e))) (Some e) (at_key k es)

  -- where the element at k stands (`Ok`), or else where one would stand (`Err`)
  abbrev pub FindsKey : K → List E → Result ℕ ℕ → Type 0
  FindsKey k es r =
      MatchResult r (λ i. (i < length es) × HoldsAt (λ y. R (key y) k ≡ Equal) es i)
      (λ i. (i ≤ length es) × IsPartitionPoint (λ y. R (key y) k ≡ Less) (λ y. R (key y) k ≡ Greater) es i)
