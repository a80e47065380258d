use Rattle.std.proofs.Common.{take}
use Rattle.soc_http.specs.inner.Pieces.{pieces_text, IsSent}
use Rattle.soc_http.proofs.pieces.write_pieces.Given as goal

abbrev pub invariant-loop-piece : goal.invariant-loop-piece
invariant-loop-piece g l =
    IsSent (g.K.Tells.told l.initial.sink) (g.K.Tells.told l.sink) l.pending (pieces_text (take l.piece-index l.pieces))
