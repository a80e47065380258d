use Rattle.std.proofs.lemmas.Result.{err_from_is_err_and}
use Rattle.std.proofs.Common.{◌∙◌, take, ap}
use Rattle.soc_http.proofs.HeadLemmas.{ReadsHeadFrom-found, ReadsHeadFrom-refused}
use Rattle.soc_http.proofs.heads.next_head.Goals as goal

pub returns-in_err-head-clause-from : goal.returns-in_err-head-clause-from
returns-in_err-head-clause-from g c =
    let p = err_from_is_err_and c.from_residual-in_err-head.result c.from_residual-in_err-head.ensures.1 in
    let found = rw c.in-Some.is at c.in_ok-end.ensures.found in
    let is = c.before-2.ensures ∙ ap (take c.in-Some.end) c.unread.ensures.value in
    rw (p.1, p.2) (ReadsHeadFrom-refused _ _ _ _ _ _ _ c.in_ok-end.ensures.fills found is c.in_err-head.ensures.refused)

pub returns-clause-from : goal.returns-clause-from
returns-clause-from g c =
    let found = rw c.in-Some.is at c.in_ok-end.ensures.found in
    let is = c.before-2.ensures ∙ ap (take c.in-Some.end) c.unread.ensures.value in
    ReadsHeadFrom-found _ _ _ _ _ _ _ _ c.in_ok-end.ensures.fills found is c.in_ok-head.ensures.few
    c.in_ok-head.ensures.says c.consume.ensures
