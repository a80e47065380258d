use Rattle.std.proofs.Common.{◌≡◌, ℕ, ◌<◌, false, get_or}
use Rattle.soc_symfile.specs.Words.{is_space}
use Rattle.soc_symfile.proofs.words.space_place.Given as goal

-- no space stands at the places that were passed
abbrev pub invariant-loop-place : goal.invariant-loop-place
invariant-loop-place l = (k : ℕ) → k < l.place → is_space (get_or l.bytes k 0) ≡ false
