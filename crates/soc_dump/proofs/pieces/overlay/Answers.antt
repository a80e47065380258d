use Rattle.std.proofs.Common.{[]}
use Rattle.std.proofs.lemmas.List.{append-nil}
use Rattle.soc_dump.proofs.CoveringLemmas.{overlay-end}
use Rattle.soc_dump.proofs.pieces.overlay.Goals as goal

pub returns : goal.returns
returns c =
    let layers = c.loop-piece.layers in
    rw (append-nil c.loop-piece.pieces.items) at (c.loop-piece.invariant []
    (overlay-end layers.above layers.below layers.upper.now layers.lower.now c.in_default.ensures.next))
