use Rattle.std.proofs.lemmas.Result.{err_from_is_err_and}
use Rattle.soc_edge.proofs.Told.{WritesFront-longer}
use Rattle.soc_http.proofs.SendLemmas.{IsSent-written, WritesFront-pending, WritesFront-piece}
use Rattle.soc_http.proofs.pieces.put.Goals as goal

pub returns-in_err-flush-clause-front : goal.returns-in_err-flush-clause-front
returns-in_err-flush-clause-front g c =
    let p = err_from_is_err_and c.from_residual.result c.from_residual.ensures.1 in
    let front = rw c.if-add.ensures.stays at c.in_err-flush.ensures.front in
    rw p.1 (λ start done sent. WritesFront-longer _ _ _ _ (WritesFront-pending _ _ _ _ _ sent front))

pub returns-in_err-write_all-clause-front : goal.returns-in_err-write_all-clause-front
returns-in_err-write_all-clause-front g c =
    let p = err_from_is_err_and c.from_residual-in_err-write_all.result c.from_residual-in_err-write_all.ensures.1 in
    let written = rw c.if-add.ensures.stays at c.in_ok-flush.ensures.written in
    rw p.1 (λ start done sent. WritesFront-piece _ _ _ _ _ _ _ sent written c.in_err-write_all.ensures.front)

pub returns-clause-sent : goal.returns-clause-sent
returns-clause-sent g c =
    let written = rw c.if-add.ensures.stays at c.in_ok-flush.ensures.written in
    λ start done sent.
    IsSent-written _ _ _ _ _ _ _ _ _ sent written c.in_ok-flush.ensures.cleared c.if-add-2.ensures.stays
    c.in_ok-write_all.ensures.whole
