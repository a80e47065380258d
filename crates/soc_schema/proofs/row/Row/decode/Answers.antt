use Rattle.std.proofs.Common.{◌≡◌, ◌∙◌, ℕ, List, length, ap, sym, arith}
use Rattle.std.proofs.lemmas.Result.{err_from_is_err_and}
use Rattle.soc_schema.specs.declared.value.Cell.{Cell}
use Rattle.soc_schema.specs.RowText.{HasText, cells_text}
use Rattle.soc_schema.specs.inner.Reading.{ReadsCells}
use Rattle.soc_schema.proofs.RowTextLemmas.{HasText-reads, HasText-ends, IsRow-short, Refuses-weaker}
use Rattle.soc_schema.proofs.row.Row.decode.Goals as goal

pub returns-in_default-clause-bad : goal.returns-in_default-clause-bad
returns-in_default-clause-bad c =
    λ cells h. c.in_default.ensures.takes.0 (length cells) (cells_text cells) (IsRow-short cells h.is_row) (c.new-cursor.ensures ∙ h.whole)

pub returns-in_err-cells-clause-bad : goal.returns-in_err-cells-clause-bad
returns-in_err-cells-clause-bad c =
    let p = err_from_is_err_and c.from_residual.result c.from_residual.ensures.1 in
    rw (p.1, p.2) (Refuses-weaker c.in_err-cells.field-0.0 ((cells : List Cell) (s : List ℕ) → ¬ (ReadsCells 0 c.in-Some.count c.u32.new.self cells s)) ((cells : List Cell) → ¬ (HasText cells c.args.b.now)) (λ bad cells h. bad cells _ (HasText-reads c.in-Some.count c.args.b.now c.u32.new.self cells (sym c.new-cursor.ensures ∙ c.in-Some.ensures.takes.1) c.in-Some.ensures.takes.0 h)) c.in_err-cells.ensures)

pub returns-then-not-is_empty-clause-bad : goal.returns-then-not-is_empty-clause-bad
returns-then-not-is_empty-clause-bad c =
    λ other h.
    let end = HasText-ends c.in-Some.count c.args.b.now c.u32.new.self c.cells_at.new.cursor c.in_ok-cells.cells.items other (sym c.new-cursor.ensures ∙ c.in-Some.ensures.takes.1) c.in-Some.ensures.takes.0 c.in_ok-cells.ensures h in
    let none : length c.cells_at.new.cursor ≡ 0 = ap length end.1 in
    grind arith

pub returns-clause-only : goal.returns-clause-only
returns-clause-only c =
    λ other h. (HasText-ends c.in-Some.count c.args.b.now c.u32.new.self c.cells_at.new.cursor c.in_ok-cells.cells.items other (sym c.new-cursor.ensures ∙ c.in-Some.ensures.takes.1) c.in-Some.ensures.takes.0 c.in_ok-cells.ensures h).0 ∙ sym c.of_cells.ensures
