-- The parts of a path between its slashes.
use Rattle.std.specs.Prelude.{ℕ, ◌/◌, ◌==◌, Bool, List, [], length, codes, slice_index, slice_get, unwrap_or}
use Rattle.std.specs.List.{slice_split}

abbrev pub is_slash : ℕ → Bool
is_slash byte = byte == slice_index (codes "/") 0

abbrev pub parts_of : List ℕ → List (List ℕ)
parts_of path = slice_split is_slash path

-- the one with as many parts before it as behind it, or one more before it
unfoldable pub middle_of : List ℕ → List ℕ
middle_of path = unwrap_or (slice_get (parts_of path) (length (parts_of path) / 2)) []
