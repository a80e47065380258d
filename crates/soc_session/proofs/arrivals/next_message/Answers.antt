use Rattle.std.proofs.lemmas.Result.{err_from_is_err_and}
use Rattle.soc_session.proofs.ArrivalLemmas.{Arrives-refused, Arrives-whole, Arrives-dropped, Arrives-cut, Arrives-failed}
use Rattle.soc_session.proofs.arrivals.next_message.Goals as goal

pub returns-in_err-head-clause-arrives : goal.returns-in_err-head-clause-arrives
returns-in_err-head-clause-arrives g c =
    let p = err_from_is_err_and c.from_residual.result c.from_residual.ensures.1 in
    rw (p.1, p.2) (Arrives-refused c.args.rules.now _ _ _ _ _ c.in_err-head.ensures.from)

pub returns-in-Ok-clause-arrives : goal.returns-in-Ok-clause-arrives
returns-in-Ok-clause-arrives g c =
    let head = rw c.in-Some.is at c.in_ok-head.ensures.from in
    Arrives-whole c.args.rules.now _ _ _ _ _ _ _ c.look_at_head-intake.result _ head c.look_at_head-intake.ensures c.in-Ok.ensures.takes

pub returns-in-Err-NoMemory-clause-arrives : goal.returns-in-Err-NoMemory-clause-arrives
returns-in-Err-NoMemory-clause-arrives g c =
    let head = rw c.in-Some.is at c.in_ok-head.ensures.from in
    Arrives-dropped c.args.rules.now _ _ _ _ _ _ _ c.look_at_head-intake.result head (rw c.in-Err-NoMemory.field-0-is at c.in-Err-NoMemory.ensures.takes)

pub returns-in-Err-CutShort-clause-arrives : goal.returns-in-Err-CutShort-clause-arrives
returns-in-Err-CutShort-clause-arrives g c =
    let head = rw c.in-Some.is at c.in_ok-head.ensures.from in
    Arrives-cut c.args.rules.now _ _ _ _ _ _ _ c.look_at_head-intake.result head (rw c.in-Err-CutShort.field-0-is at c.in-Err-CutShort.ensures.takes)

pub returns-in-Err-ReadFault-clause-arrives : goal.returns-in-Err-ReadFault-clause-arrives
returns-in-Err-ReadFault-clause-arrives g c =
    let head = rw c.in-Some.is at c.in_ok-head.ensures.from in
    Arrives-failed c.args.rules.now _ _ _ _ _ _ _ c.look_at_head-intake.result head (rw c.in-Err-ReadFault.field-0-is at c.in-Err-ReadFault.ensures.takes)
