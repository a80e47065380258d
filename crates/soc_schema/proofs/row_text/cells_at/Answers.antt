use Rattle.std.proofs.Common.{◌≡◌, ◌+◌, ◌<◌, ◌∙◌, ℕ, List, sym, ap, arith}
use Rattle.std.proofs.lemmas.Result.{err_from_is_err_and}
use Rattle.soc_schema.specs.declared.value.Cell.{Cell}
use Rattle.soc_schema.specs.inner.Reading.{ReadsCell, ReadsCells}
use Rattle.soc_schema.proofs.RowTextLemmas.{ReadsCells-push, ReadsCells-refused, Refuses-weaker, next_low, next_low-push}
use Rattle.soc_schema.proofs.row_text.cells_at.Goals as goal

pub returns-in_err-cell : goal.returns-in_err-cell
returns-in_err-cell c =
    let p = err_from_is_err_and c.from_residual.result c.from_residual.ensures.1 in
    rw (p.1, p.2) (Refuses-weaker c.in_err-cell.field-0.0 ((x : Cell) (s : List ℕ) → ¬ (ReadsCell c.loop.low c.loop.cursor x s)) ((cells : List Cell) (s : List ℕ) → ¬ (ReadsCells 0 c.args.count c.args.cursor.now cells s)) (λ bad. ReadsCells-refused c.loop.counter c.args.count c.loop.low c.args.cursor.now c.loop.cursor c.loop.cells.items c.loop.invariant.0 c.loop.invariant.1 c.loop-test.true bad) c.in_err-cell.ensures)

pub loop-preserved : goal.loop-preserved
loop-preserved c =
    let next : ReadsCell c.loop.low c.loop.cursor c.in_ok-cell.cell c.cell_at.new.cursor = c.in_ok-cell.ensures in
    let rise : c.place-low.result + 1 ≡ next_low 0 c.push.new.cells.items = ap (λ n. n + 1) c.place-low.ensures.value ∙ (sym (next_low-push 0 c.loop.cells.items c.in_ok-cell.cell) ∙ ap (next_low 0) (sym c.in_ok-push.ensures)) in
    let inside : c.place-low.result < 36 = c.place-low.ensures.in_table in
    (ReadsCells-push c.loop.counter c.loop.low c.args.cursor.now c.loop.cursor c.cell_at.new.cursor c.loop.cells.items c.push.new.cells.items c.in_ok-cell.cell c.loop.invariant.0 c.loop.invariant.1 next c.in_ok-push.ensures, rise, omega arith)
