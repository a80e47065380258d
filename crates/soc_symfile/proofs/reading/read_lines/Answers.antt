use Rattle.std.proofs.Common.{arith}
use Rattle.std.proofs.lemmas.Result.{err_from_is_err_and}
use Rattle.soc_symfile.proofs.ReadingLemmas.{read-start, read-end, read-bad, read-refused, read-more}
use Rattle.soc_symfile.proofs.reading.read_lines.Goals as goal

pub loop-line-init : goal.loop-line-init
loop-line-init c = (read-start c.args.tables c.args.text.now c.requires, omega arith)

pub returns-in_default-line_of : goal.returns-in_default-line_of
returns-in_default-line_of c = read-bad _ _ _ _ c.in-Some.line.now _ c.loop-line.invariant.0 c.in-Some.ensures c.in_default-line_of.ensures

pub returns : goal.returns
returns c = read-end _ _ _ _ c.loop-line.invariant.0 c.in_default.ensures

pub returns-in_err-add : goal.returns-in_err-add
returns-in_err-add c =
    let p = err_from_is_err_and c.from_residual.result c.from_residual.ensures.1 in
    rw (p.1, p.2)
    (read-refused _ _ _ _ c.in-Some.line.now _ _ c.in_err-add.field-0.0 c.loop-line.invariant.0 c.in-Some.ensures c.in-Some-line_of.ensures c.in_err-add.ensures)

pub loop-line-preserved : goal.loop-line-preserved
loop-line-preserved c = (read-more _ _ _ _ _ c.in-Some.line.now _ _ c.loop-line.invariant.0 c.in-Some.ensures c.in-Some-line_of.ensures c.in_ok-add.ensures, omega (arith, c.in-Some.ensures.1))
