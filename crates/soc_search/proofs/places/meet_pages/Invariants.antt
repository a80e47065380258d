use Rattle.std.proofs.Common.{◌≡◌, ℕ, ◌<◌, ◌≤◌, [], get_or}
use Rattle.soc_search.specs.inner.Places.{word_has, met}
use Rattle.soc_search.proofs.places.meet_pages.Given as goal

abbrev pub invariant-loop-i : goal.invariant-loop-i
invariant-loop-i l =
    ((j : ℕ) → j < l.i → (k : ℕ) → word_has (get_or l.pages j []) k ≡ met l.how (word_has (get_or l.initial.pages j []) k) (word_has (get_or l.other j []) k))
    × ((j : ℕ) → l.i ≤ j → get_or l.pages j [] ≡ get_or l.initial.pages j [])
