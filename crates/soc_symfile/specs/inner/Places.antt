-- Sorted places of records, and what a look-up among them gives of the records' keys, which stand in the order of the
-- file.
use Rattle.std.specs.Prelude.{◌≡◌, ℕ, ◌<◌, ◌≤◌, List, length, slice_index, slice_index_or}
use Rattle.std.specs.List.Sorted.{IsNonDecreasingBy}
use Rattle.soc_symfile.specs.declared.places.Place.{Place}

-- the places are those of the keys: sorted, those of one key by rising place, each one once or more
pub record IsIndex (places : List Place) (keys : List ℕ) : Type 0 where
  pub sorted : IsNonDecreasingBy (λ place. place.key) places
  pub ties : (i j : ℕ) (d : Place) → i ≤ j → j < length places → (slice_index_or places i d).key ≡ (slice_index_or places j d).key → (slice_index_or places i d).at ≤ (slice_index_or places j d).at
  pub real : (i : ℕ) (d : Place) → i < length places → ((slice_index_or places i d).at < length keys) × (slice_index keys (slice_index_or places i d).at ≡ (slice_index_or places i d).key)
  pub whole : (at : ℕ) → at < length keys → (i : ℕ) × (i < length places) × ((d : Place) → (slice_index_or places i d).at ≡ at)

abbrev pub HasNone : List ℕ → ℕ → Type 0
HasNone keys key = (at : ℕ) → at < length keys → ¬ (slice_index keys at ≡ key)

-- the key stands at the place and at none before it
pub record IsFirstOf (keys : List ℕ) (key at : ℕ) : Type 0 where
  pub inside : at < length keys
  pub is : slice_index keys at ≡ key
  pub first : (other : ℕ) → other < length keys → slice_index keys other ≡ key → at ≤ other

-- the key stands at the place and at none behind it
pub record IsLastOf (keys : List ℕ) (key at : ℕ) : Type 0 where
  pub inside : at < length keys
  pub is : slice_index keys at ≡ key
  pub last : (other : ℕ) → other < length keys → slice_index keys other ≡ key → other ≤ at

abbrev pub AllAbove : List ℕ → ℕ → Type 0
AllAbove keys offset = (at : ℕ) → at < length keys → offset < slice_index keys at

-- the first place of the greatest key at or below the offset
pub record IsNearest (keys : List ℕ) (offset at : ℕ) : Type 0 where
  pub first : IsFirstOf keys (slice_index keys at) at
  pub below : slice_index keys at ≤ offset
  pub greatest : (other : ℕ) → other < length keys → slice_index keys other ≤ offset → slice_index keys other ≤ slice_index keys at
