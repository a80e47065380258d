-- Where a field stands in a row.
use Rattle.std.specs.Prelude.{◌≡◌, ℕ, ◌<◌, ◌≤◌, List, length, map, slice_index}
use Rattle.soc_schema.specs.declared.value.Cell.{Cell}

-- the fields of a row
abbrev pub fields : List Cell → List ℕ
fields cells = map (λ c. c.field) cells

-- the field stands at that place of a row, those before it are lesser
pub record HasFieldAt (cells : List Cell) (f p : ℕ) : Type 0 where
  pub within : p < length cells
  pub below : (k : ℕ) → k < p → slice_index (fields cells) k < f
  pub here : slice_index (fields cells) p ≡ f

-- the field doesn't stand in the row, and would stand at that place
pub record LacksFieldAt (cells : List Cell) (f p : ℕ) : Type 0 where
  pub within : p ≤ length cells
  pub below : (k : ℕ) → k < p → slice_index (fields cells) k < f
  pub above : (k : ℕ) → p ≤ k → k < length cells → f < slice_index (fields cells) k
