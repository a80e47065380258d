use Rattle.std.proofs.lemmas.Result.{err_from_is_err_and, on_err_weaker}
use Rattle.soc_http.proofs.SendLemmas.{WritesFront-at, WritesFront-end}
use Rattle.soc_http.proofs.pieces.write_pieces.Goals as goal

pub returns-in_err-put-clause-front : goal.returns-in_err-put-clause-front
returns-in_err-put-clause-front g c =
    let p = err_from_is_err_and c.from_residual.result c.from_residual.ensures.1 in
    rw p.1 (WritesFront-at _ _ _ _ _ c.loop-piece-test.true (c.in_err-put.ensures.front _ _ c.loop-piece.invariant))

pub returns-clause-front : goal.returns-clause-front
returns-clause-front g c =
    on_err_weaker c.flush.result (λ front. WritesFront-end _ _ _ _ _ _ c.loop-piece-test.false c.loop-piece.invariant front)
    c.flush.ensures.front
