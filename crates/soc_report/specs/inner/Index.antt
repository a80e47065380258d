-- The chains of symbol files that have one id.
use Rattle.std.specs.Prelude.{◌≡◌, ◌≢◌, ℕ, ◌+◌, ◌<◌, ◌≤◌, List, length, Some, slice_get, slice_index, unwrap_or}
use Rattle.soc_base.specs.Names.{value_of}
use Rattle.soc_report.specs.declared.index.Index.{Index}

-- the place that a map has of an id, and the count where it has none
abbrev pub place_or : ℕ → List (List ℕ × ℕ) → List ℕ → ℕ
place_or count places id = unwrap_or (value_of places id) count

-- the next place from one on that has the id; behind the last place where there is none
pub record LeadsTo (ids : List (List ℕ)) (id : List ℕ) (start place : ℕ) : Type 0 where
  pub within : start ≤ place
  pub skipped : (other : ℕ) → start ≤ other → other < place → slice_get ids other ≢ Some id
  pub found : place < length ids → slice_get ids place ≡ Some id

-- the chains of the places from one on: the first place of each id, and the next one behind each place
pub record IsChain (ids : List (List ℕ)) (start : ℕ) (places : List (List ℕ × ℕ)) (behind : List ℕ) : Type 0 where
  pub count : length behind ≡ length ids
  pub first : (id : List ℕ) → LeadsTo ids id start (place_or (length ids) places id)
  pub next : (place : ℕ) (id : List ℕ) → start ≤ place → slice_get ids place ≡ Some id → LeadsTo ids id (place + 1) (slice_index behind place)

abbrev pub IsIndex : List (List ℕ) → Index → Type 0
IsIndex ids index = IsChain ids 0 index.first index.next.items
