-- Reading texts from a tree, part by part.
use Rattle.std.specs.Prelude.{◌≡◌, ℕ, List, map, Some, None, ⊤}
use Rattle.soc_siglists.specs.declared.error.ListError.{ListError}
use Rattle.soc_siglists.specs.declared.error.ListError.TheVariants as list
use Rattle.soc_report.specs.declared.error.KitError.{KitError}
use Rattle.soc_report.specs.declared.error.KitError.TheVariants.{BadLine, BadPattern, MakerFault, TreeFault, Missing, NoMemory}
use Rattle.soc_report.specs.declared.texts.SymbolFile.{SymbolFile}
use Rattle.soc_report.specs.Texts.{SymbolText, Files, name_of, symbols_list, paths_in, missing_at, symbol_text}

abbrev pub symbol_view : SymbolFile → SymbolText
symbol_view file = record { path = file.path; content = file.content }

-- want of memory, or what this says of a missing file
abbrev pub OnlyMissing : KitError → (List ℕ → Type 0) → Type 0
OnlyMissing (Missing name) Q = Q name
OnlyMissing NoMemory Q = ⊤
OnlyMissing TreeFault Q = ⊥
OnlyMissing MakerFault Q = ⊥
OnlyMissing (BadLine name line) Q = ⊥
OnlyMissing (BadPattern list line) Q = ⊥

-- the same, or a fault of the tree
abbrev pub MissingOrFault : KitError → (List ℕ → Type 0) → Type 0
MissingOrFault (Missing name) Q = Q name
MissingOrFault NoMemory Q = ⊤
MissingOrFault TreeFault Q = ⊤
MissingOrFault MakerFault Q = ⊥
MissingOrFault (BadLine name line) Q = ⊥
MissingOrFault (BadPattern list line) Q = ⊥

abbrev pub RefusesList : KitError → Type 0
RefusesList error = OnlyMissing error (λ name. name ≡ symbols_list)

abbrev pub RefusesPaths : KitError → List ℕ → Type 0
RefusesPaths error bytes = OnlyMissing error (λ name. (name ≡ symbols_list) × (paths_in bytes ≡ None))

-- a fault of the tree or want of memory
abbrev pub IsFault : KitError → Type 0
IsFault error = MissingOrFault error (λ _. ⊥)

-- the symbol file of a path is there
pub record IsThere (files : Files) (path : List ℕ) (symbol : SymbolText) : Type 0 where
  pub same_path : symbol.path ≡ path
  pub content : files (name_of path) ≡ Some symbol.content

abbrev pub RefusesSymbol : KitError → Files → List ℕ → Type 0
RefusesSymbol error files path = MissingOrFault error (λ name. (name ≡ name_of path) × (files (name_of path) ≡ None))

-- the symbol files of paths are all there
pub record AreThere (files : Files) (paths : List (List ℕ)) (symbols : List SymbolText) : Type 0 where
  pub all : missing_at files paths ≡ None
  pub texts : symbols ≡ map (symbol_text files) paths

abbrev pub RefusesSymbols : KitError → Files → List (List ℕ) → Type 0
RefusesSymbols error files paths = MissingOrFault error (λ name. missing_at files paths ≡ Some name)

abbrev pub of_list : ListError → KitError
of_list (list.BadPattern name line) = BadPattern name line
of_list list.MakerFault = MakerFault
of_list list.NoMemory = NoMemory
