-- Where the symbol file of a module stands in a tree of symbols: Breakpad's symbol store.
use Rattle.std.specs.Prelude.{ℕ, ◌-◌, Bool, if◌then◌else◌, List, ◌++◌, length, take, drop, codes}
use Rattle.std.specs.Str.{str_eq_ignore_ascii_case}

-- the name ends in `.pdb`, in any case
abbrev pub ends_in_pdb : List ℕ → Bool
ends_in_pdb name = str_eq_ignore_ascii_case (drop (length name - 4) name) (codes ".pdb")

-- the name without that end
abbrev pub stem_of : List ℕ → List ℕ
stem_of name = if ends_in_pdb name then take (length name - 4) name else name

-- debug file, debug id, and the debug file's stem with `.sym`
abbrev pub path_of : List ℕ → List ℕ → List ℕ
path_of file id = file ++ (codes "/" ++ (id ++ (codes "/" ++ (stem_of file ++ codes ".sym"))))
