use Rattle.soc_book.proofs.Words.{err_from_is_err_and}
use Rattle.soc_book.proofs.Quiets.{stands_roomy}
use Rattle.soc_book.proofs.book.Book.begin.Goals as goal

pub returns-in_err-prepared-clause-begins : goal.returns-in_err-prepared-clause-begins
returns-in_err-prepared-clause-begins g c basis state stands =
    let p = err_from_is_err_and c.from_residual.result c.from_residual.ensures.1 in
    rw (p.1, p.2) stands

pub returns-in_err-make_room-clause-begins : goal.returns-in_err-make_room-clause-begins
returns-in_err-make_room-clause-begins g c basis state stands =
    let p = err_from_is_err_and c.from_residual-in_err-make_room.result c.from_residual-in_err-make_room.ensures.1 in
    rw (p.1, p.2, c.in_err-make_room.ensures.0) (stands_roomy c.in_err-make_room.ensures.1 stands)

pub returns-in_err-settle-clause-begins : goal.returns-in_err-settle-clause-begins
returns-in_err-settle-clause-begins g c basis state stands =
    let p = err_from_is_err_and c.from_residual-in_err-settle.result c.from_residual-in_err-settle.ensures.1 in
    rw (p.1, p.2) (c.in_err-settle.ensures.begins basis state (stands_roomy c.in_ok-make_room.ensures.0 stands))

pub returns-clause-begins : goal.returns-clause-begins
returns-clause-begins g c basis state stands =
    c.in_ok-settle.ensures.begins basis state (stands_roomy c.in_ok-make_room.ensures.0 stands)
