-- Reading the text of a row from its front.
use Rattle.std.specs.Prelude.{◌≡◌, ℕ, ◌≤◌, List, ◌++◌, length}
use Rattle.std.specs.List.{AllByRecursion}
use Rattle.soc_schema.specs.declared.value.Value.{Value}
use Rattle.soc_schema.specs.declared.value.Cell.{Cell}
use Rattle.soc_schema.specs.Rows.{IsCell, RisesFrom}
use Rattle.soc_schema.specs.RowText.{IsValue, value_text, cell_text, cells_text}

-- the bytes begin with a value, with a cell, or with so many cells, whose fields rise from `low`
pub record ReadsValue (bytes : List ℕ) (v : Value) (rest : List ℕ) : Type 0 where
  pub sound : IsValue v
  pub begins : bytes ≡ value_text v ++ rest

pub record ReadsCell (low : ℕ) (bytes : List ℕ) (c : Cell) (rest : List ℕ) : Type 0 where
  pub above : low ≤ c.field
  pub of_table : IsCell c
  pub sound : IsValue c.value
  pub begins : bytes ≡ cell_text c ++ rest

pub record ReadsCells (low count : ℕ) (bytes : List ℕ) (cells : List Cell) (rest : List ℕ) : Type 0 where
  pub rises : RisesFrom low cells
  pub sound : AllByRecursion (λ c. IsValue c.value) cells
  pub many : length cells ≡ count
  pub begins : bytes ≡ cells_text cells ++ rest
