use Rattle.std.proofs.Common.{rules}
use Rattle.soc_schema.proofs.RowTextLemmas.{fits-all, fits-none, fits-short}
use Rattle.soc_schema.proofs.row.Row.fits.Goals as goal

pub returns-clause-fits : goal.returns-clause-fits
returns-clause-fits c =
    (λ _. fits-all c.cells-cells.result.now c.args.self.now c.args.most c.loop-cell.left c.loop-cell.cell-index c.cells-cells.ensures.value c.loop-cell.invariant c.loop-cell-test.false, λ _. search rules)

pub returns-then-left-size-clause-fits : goal.returns-then-left-size-clause-fits
returns-then-left-size-clause-fits c =
    (λ t. cc, λ h. absurd (fits-none c.cells-cells.result.now c.args.self.now c.args.most c.loop-cell.left c.loop-cell.cell-index c.size_of-size.result c.cell-item.result c.cells-cells.ensures.value c.loop-cell.invariant c.loop-cell-test.true c.cell-item.is c.size_of-size.ensures c.if-left-size.true h))

pub returns-clause-short : goal.returns-clause-short
returns-clause-short c =
    λ _ small. fits-short c.args.self.now c.args.most (fits-all c.cells-cells.result.now c.args.self.now c.args.most c.loop-cell.left c.loop-cell.cell-index c.cells-cells.ensures.value c.loop-cell.invariant c.loop-cell-test.false) small
