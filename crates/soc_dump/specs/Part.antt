-- Parts of a file, and the places of entries that stand side by side.
use Rattle.std.specs.Prelude.{ℕ, zero, suc, ◌+◌, ◌==◌, ◌||◌, nat_le, Bool, List, [], ◌∷◌, length, take, drop}

-- the bytes that a place and a size name
abbrev pub part : List ℕ → ℕ → ℕ → List ℕ
part file place size = take size (drop place file)

-- whether they lie in the file; no bytes lie in any
abbrev pub is_inside : List ℕ → ℕ → ℕ → Bool
is_inside file place size = (size == 0) || nat_le (place + size) (length file)

-- the places of some entries of one size
abbrev pub places : ℕ → ℕ → ℕ → List ℕ
places first size zero = []
places first size (suc count) = first ∷ places (first + size) size count
