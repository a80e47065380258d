use Rattle.std.proofs.Common.{◌≡◌, ℕ, ◌<◌, ◌≤◌, get_or}
use Rattle.soc_search.specs.inner.Places.{bit, met}
use Rattle.soc_search.proofs.places.meet_words.Given as goal

abbrev pub invariant-loop-i : goal.invariant-loop-i
invariant-loop-i l =
    ((j : ℕ) → j < l.i → (k : ℕ) → k < 64 → bit (get_or l.words j 0) k ≡ met l.how (bit (get_or l.initial.words j 0) k) (bit (get_or l.other j 0) k))
    × ((j : ℕ) → l.i ≤ j → get_or l.words j 0 ≡ get_or l.initial.words j 0)
