-- How many bytes the parts of a record take.
use Rattle.std.specs.Prelude.{ℕ, ◌+◌, List, length}

-- the bytes that a pair takes
abbrev pub pair_len : List ℕ × List ℕ → ℕ
pair_len p = 8 + length p.0 + length p.1
