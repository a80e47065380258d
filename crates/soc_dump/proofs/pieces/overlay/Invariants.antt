use Rattle.std.proofs.Common.{List, None, ◌++◌}
use Rattle.soc_dump.specs.declared.pieces.Piece.{Piece}
use Rattle.soc_dump.specs.inner.Pieces.{IsOverlay, IsOverlayOf, layers_left}
use Rattle.soc_dump.proofs.pieces.overlay.Given as goal

abbrev pub invariant-loop-piece : goal.invariant-loop-piece
invariant-loop-piece l = (rest : List Piece) → IsOverlayOf l.layers rest → IsOverlay None l.upper None l.lower (l.pieces.items ++ rest)

abbrev pub decreases-loop-piece : goal.decreases-loop-piece
decreases-loop-piece l = layers_left l.layers
