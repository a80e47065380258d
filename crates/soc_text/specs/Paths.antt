-- Paths of files, as Unix or Windows writes them: this project's profile.
use Rattle.std.specs.Prelude.{ℕ, ◌==◌, ◌||◌, Bool, List, codes, slice_index}
use Rattle.std.specs.List.{after_last}

abbrev pub is_separator : ℕ → Bool
is_separator byte = (byte == slice_index (codes "/") 0) || (byte == slice_index (codes "\\") 0)

-- what follows the last `/` or `\`, or all where there is none
abbrev pub base_name_of : List ℕ → List ℕ
base_name_of path = after_last is_separator path
