use Rattle.std.proofs.Common.{◌≡◌, ℕ, List, ◌++◌, length}
use Rattle.soc_multipart.specs.inner.Sections.{Stands}
use Rattle.soc_multipart.specs.inner.Tails.{Watches}
use Rattle.soc_multipart.proofs.sections.fed.Given as goal

-- the state is that after the bytes that were taken from the piece
abbrev pub invariant-loop-left : goal.invariant-loop-left
invariant-loop-left l =
    (done : List ℕ) × (l.piece ≡ done ++ l.left) × ((fed : List ℕ) → Stands Watches l.boundary fed l.fn.state → Stands Watches l.boundary (fed ++ done) l.new)

abbrev pub decreases-loop-left : goal.decreases-loop-left
decreases-loop-left l = length l.left
