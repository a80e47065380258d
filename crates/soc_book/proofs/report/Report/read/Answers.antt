use Rattle.std.proofs.Common.{arith}
use Rattle.soc_book.proofs.Words.{length-take, err_from_is_err_and}
use Rattle.soc_book.proofs.Reports.{read_ok, read_only, bad_row, bad_id, too_short}
use Rattle.soc_book.proofs.report.Report.read.Goals as goal

pub slice_bounds-of_bytes-end : goal.slice_bounds-of_bytes-end
slice_bounds-of_bytes-end c = omega (arith, length-take 36 c.args.body.now, c.if-body-lt-HEAD.false)

pub returns-then-body-lt-HEAD-clause-bad : goal.returns-then-body-lt-HEAD-clause-bad
returns-then-body-lt-HEAD-clause-bad c = too_short c.args.body.now (λ long. omega (arith, long, c.if-body-lt-HEAD.true))

pub returns-in_default-clause-bad : goal.returns-in_default-clause-bad
returns-in_default-clause-bad c = bad_id c.args.body.now c.in_default.ensures

pub returns-in_err-row-clause-bad : goal.returns-in_err-row-clause-bad
returns-in_err-row-clause-bad c =
    let p = err_from_is_err_and c.from_residual.result c.from_residual.ensures.1 in
    rw (p.1, p.2) (bad_row c.in_err-row.field-0.0 c.args.body.now c.in_err-row.ensures.bad)

pub returns-clause-ok : goal.returns-clause-ok
returns-clause-ok c = read_ok c.in-Some.id c.in_ok-row.row c.args.body.now c.if-body-lt-HEAD.false c.in-Some.ensures.0 c.in-Some.ensures.1 c.in_ok-row.ensures.ok

pub returns-clause-only : goal.returns-clause-only
returns-clause-only c = λ made is. read_only made c.in-Some.id c.in_ok-row.row c.args.body.now is c.in-Some.ensures.1 c.in_ok-row.ensures.only
