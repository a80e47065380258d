-- What reports are made with: three list files, and the symbol files that `symbols.txt` names (this project's profile).
use Rattle.std.specs.Prelude.{◌≡◌, ℕ, ◌&&◌, nat_le, if◌then◌else◌, List, [], ◌++◌, length, map, find, codes, Option, Some, None, is_none, option_map, unwrap_or, Result, Ok, Err, ⊤}
use Rattle.std.specs.List.{list_all}
use Rattle.std.specs.Option.{option_map_or}
use Rattle.std.specs.Str.{is_utf8}
use Rattle.soc_siglists.specs.Reading.{patterns_in}
use Rattle.soc_report.specs.declared.error.KitError.{KitError}
use Rattle.soc_report.specs.declared.error.KitError.TheVariants.{BadLine, BadPattern, MakerFault, TreeFault, Missing, NoMemory}

-- a symbol file: its path as `symbols.txt` names it, and its content
pub record SymbolText : Type 0 where
  pub path : List ℕ
  pub content : List ℕ

pub record KitTexts : Type 0 where
  pub irrelevant : List ℕ
  pub prefix : List ℕ
  pub sentinel : List ℕ
  pub symbols : List SymbolText

-- the files of a tree by their names
abbrev pub Files : Type 0
Files = List ℕ → Option (List ℕ)

-- a file that isn't there counts as empty
abbrev pub text_at : Files → List ℕ → List ℕ
text_at files name = unwrap_or (files name) []

abbrev pub symbols_list : List ℕ
symbols_list = codes "symbols.txt"

-- where a symbol file stands in the tree
abbrev pub name_of : List ℕ → List ℕ
name_of path = codes "symbols/" ++ path

abbrev pub most_paths : ℕ
most_paths = 4096

-- the paths of a list, one a line as patterns stand in list files; none where a line isn't UTF-8 or is one too many
abbrev pub paths_in : List ℕ → Option (List (List ℕ))
paths_in bytes =
    let paths = patterns_in bytes in if nat_le (length paths) most_paths && list_all is_utf8 paths then Some paths else None

abbrev pub paths_of : Files → Option (List (List ℕ))
paths_of files = paths_in (text_at files symbols_list)

-- the first file that is missing: the list of paths where it is none, else the first symbol file that isn't there
abbrev pub missing_at : Files → List (List ℕ) → Option (List ℕ)
missing_at files paths = option_map name_of (find (λ path. is_none (files (name_of path))) paths)

abbrev pub missing_in : Files → Option (List ℕ)
missing_in files = option_map_or (missing_at files) (paths_of files) (Some symbols_list)

abbrev pub symbol_text : Files → List ℕ → SymbolText
symbol_text files path = record { path = path; content = text_at files (name_of path) }

-- the texts in a tree, of which no file is missing
abbrev pub texts_in : Files → KitTexts
texts_in files = record {
  irrelevant = text_at files (codes "irrelevant.txt");
  prefix = text_at files (codes "prefix.txt");
  sentinel = text_at files (codes "sentinel.txt");
  symbols = map (symbol_text files) (unwrap_or (paths_of files) []);
}

-- the texts of a tree, or the first file that is missing; what the tree's faults and want of memory answer says nothing
-- of the files
abbrev pub IsReadFrom : Result KitTexts KitError → Files → Type 0
IsReadFrom (Ok texts) files = (missing_in files ≡ None) × (texts ≡ texts_in files)
IsReadFrom (Err (Missing name)) files = missing_in files ≡ Some name
IsReadFrom (Err TreeFault) files = ⊤
IsReadFrom (Err NoMemory) files = ⊤
IsReadFrom (Err MakerFault) files = ⊥
IsReadFrom (Err (BadLine name line)) files = ⊥
IsReadFrom (Err (BadPattern list line)) files = ⊥

-- the refusals that come while files are read
abbrev pub IsOfReading : KitError → Type 0
IsOfReading (Missing name) = ⊤
IsOfReading TreeFault = ⊤
IsOfReading NoMemory = ⊤
IsOfReading MakerFault = ⊥
IsOfReading (BadLine name line) = ⊥
IsOfReading (BadPattern list line) = ⊥
