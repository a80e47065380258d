use Rattle.std.proofs.Common.{◌≡◌, ℕ, zero, suc, ◌+◌, ◌^◌, ◌<◌, ◌≤◌, List, [], ◌∷◌, ◌++◌, length, get_or, take, sym, ap, ◌∙◌, subst, arith, append_assoc, add-one}
use Rattle.std.specs.Int.{to_le_bytes, w32}
use Rattle.std.specs.List.{AllByRecursion}
use Rattle.std.proofs.lemmas.List.{take_all}
use Rattle.std.proofs.Math.Seq.{take-suc}
use Rattle.soc_schema.specs.declared.value.Cell.{Cell}
use Rattle.soc_schema.specs.Rows.{IsRow}
use Rattle.soc_schema.specs.RowText.{cell_text, cells_text, row_text, HasText, IsShort, IsValue}
use Rattle.soc_schema.proofs.RowTextLemmas.{AllValues-push, IsRow-short, cells_text-push}
use Rattle.soc_schema.proofs.row.Row.encode.Goals as goal

-- the cell at a place of a list of short ones is short
short_at : (cells : List Cell) (i : ℕ) (c : Cell) → i < length cells → c ≡ get_or cells i c → AllByRecursion (λ d. IsShort d.value) cells → IsShort c.value
short_at [] i c within read all = absurd (omega arith)
short_at (d ∷ ds) zero c within read all = subst (λ x. IsShort x.value) (sym read) all.0
short_at (d ∷ ds) (suc i) c within read all = short_at ds i c (omega arith) read all.1

-- one cell more
pushes : (cells : List Cell) (i : ℕ) (c : Cell) (head before after : List ℕ) → before ≡ head ++ cells_text (take i cells) → AllByRecursion (λ d. IsValue d.value) (take i cells) → i < length cells → c ≡ get_or cells i c → after ≡ before ++ cell_text c → IsValue c.value → (after ≡ head ++ cells_text (take (i + 1) cells)) × AllByRecursion (λ d. IsValue d.value) (take (i + 1) cells)
pushes cells i c head before after so_far values within read pushed sound =
    let next : take (i + 1) cells ≡ take i cells ++ c ∷ [] = rw add-one (take-suc cells i c within ∙ ap (λ d. take i cells ++ d ∷ []) (sym read)) in
    (pushed ∙ (ap (λ l. l ++ cell_text c) so_far ∙ (append_assoc head (cells_text (take i cells)) (cell_text c) ∙ ap (λ l. head ++ l) (sym (ap cells_text next ∙ cells_text-push (take i cells) c)))), subst (AllByRecursion (λ d. IsValue d.value)) (sym next) (AllValues-push (take i cells) c values sound))

-- all cells
ends : (cells now : List Cell) (i : ℕ) (bytes text : List ℕ) → cells ≡ now → IsRow cells → bytes ≡ to_le_bytes w32 (length cells) ++ cells_text (take i cells) → AllByRecursion (λ d. IsValue d.value) (take i cells) → length cells ≤ i → text ≡ bytes → HasText now text
ends cells now i bytes text same row so_far values past made =
    let all : take i cells ≡ cells = take_all i cells past in
    record {
      is_row = subst IsRow same row;
      values = subst (AllByRecursion (λ d. IsValue d.value)) (all ∙ same) values;
      whole = made ∙ (so_far ∙ (ap (λ l. to_le_bytes w32 (length cells) ++ cells_text l) all ∙ ap row_text same));
    }

pub overflow_cast-cells : goal.overflow_cast-cells
overflow_cast-cells c =
    let short : length c.cells-cells.result.now < 2 ^ 32 = IsRow-short c.cells-cells.result.now c.cells-cells.ensures.is_row in
    omega arith

pub push_cell-requires : goal.push_cell-requires
push_cell-requires c =
    short_at c.cells-cells.result.now c.loop-cell.cell-index c.cell-item.result c.loop-cell-test.true c.cell-item.is (subst (AllByRecursion (λ d. IsShort d.value)) (sym c.cells-cells.ensures.value) c.requires)

pub loop-cell-preserved : goal.loop-cell-preserved
loop-cell-preserved c =
    pushes c.cells-cells.result.now c.loop-cell.cell-index c.cell-item.result (to_le_bytes w32 (length c.cells-cells.result.now)) c.loop-cell.bytes.items c.push_cell.new.bytes.items c.loop-cell.invariant.0 c.loop-cell.invariant.1 c.loop-cell-test.true c.cell-item.is c.in_ok-push_cell.ensures.text c.in_ok-push_cell.ensures.sound

pub returns : goal.returns
returns c =
    ends c.cells-cells.result.now c.args.self.now c.loop-cell.cell-index c.loop-cell.bytes.items c.from.result c.cells-cells.ensures.value c.cells-cells.ensures.is_row c.loop-cell.invariant.0 c.loop-cell.invariant.1 c.loop-cell-test.false c.from.ensures
