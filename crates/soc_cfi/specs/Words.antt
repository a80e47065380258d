-- Words parted by spaces, in this project's profile of Breakpad's `STACK CFI` records.
use Rattle.std.specs.Prelude.{ℕ, ◌==◌, nat_lt, List, length, filter}
use Rattle.std.specs.List.{slice_split}

-- the space of ASCII
abbrev pub space : ℕ
space = 32

-- what stands between the spaces of a text; between two neighbours stands an empty part
abbrev pub parts : List ℕ → List (List ℕ)
parts text = slice_split (λ byte. byte == space) text

-- the tokens of a text: its parts that aren't empty
abbrev pub tokens : List ℕ → List (List ℕ)
tokens text = filter (λ part. nat_lt 0 (length part)) (parts text)
