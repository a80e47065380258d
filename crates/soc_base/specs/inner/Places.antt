-- Where a name stands in a list of pairs that rises.
use Rattle.std.specs.Prelude.{◌≡◌, ℕ, ◌<◌, ◌≤◌, List, Result, MatchResult, length, slice_index_or}
use Rattle.std.specs.declared.cmp.Ordering.TheVariants.{Less, Equal, Greater}
use Rattle.std.specs.Ordering.{nat_cmp}
use Rattle.std.specs.Cmp.Lexicographic.{slice_cmp}
use Rattle.std.specs.Map.{keys_of}

-- each name before the place is below this one
abbrev pub IsBelow : {V : Type 0} → List (List ℕ × V) → List ℕ → ℕ → Type 0
IsBelow ps name i = (j : ℕ) (d : List ℕ) → j < i → slice_cmp nat_cmp name (slice_index_or (keys_of ps) j d) ≡ Greater

-- each name from the place on is above this one
abbrev pub IsAbove : {V : Type 0} → List (List ℕ × V) → List ℕ → ℕ → Type 0
IsAbove ps name i = (j : ℕ) (d : List ℕ) → i ≤ j → j < length ps → slice_cmp nat_cmp name (slice_index_or (keys_of ps) j d) ≡ Less

-- where a name stands among the pairs (`Ok`), or where it would stand (`Err`)
abbrev pub IsPlaceOf : {V : Type 0} → List (List ℕ × V) → List ℕ → Result ℕ ℕ → Type 0
IsPlaceOf ps name r =
    MatchResult r (λ i. (i < length ps) × IsBelow ps name i × ((d : List ℕ) → slice_cmp nat_cmp name (slice_index_or (keys_of ps) i d) ≡ Equal))
    (λ i. (i ≤ length ps) × IsBelow ps name i × IsAbove ps name i)
