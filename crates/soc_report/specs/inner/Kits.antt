-- A kit by its parts, and how its symbol files are looked up.
use Rattle.std.specs.Prelude.{◌≡◌, ◌≢◌, ℕ, ◌≤◌, ◌<◌, List, [], ◌∷◌, length, map, Option, Some, slice_get, Result, Ok, Err, ⊤}
use Rattle.std.specs.List.{count_by}
use Rattle.sha2.specs.Sha256.{sha256}
use Rattle.soc_siglists.specs.Reading.{lists_in}
use Rattle.soc_symfile.specs.Path.{path_of}
use Rattle.soc_symfile.specs.Records.{Records, records_of}
use Rattle.soc_report.specs.declared.error.KitError.{KitError}
use Rattle.soc_report.specs.declared.error.KitError.TheVariants.{BadLine, BadPattern, MakerFault, TreeFault, Missing, NoMemory}
use Rattle.soc_report.specs.declared.kit.Kit.TheInside.{Inside}
use Rattle.soc_report.specs.Digests.{digested}
use Rattle.soc_report.specs.Kits.{bad_symbols}
use Rattle.soc_report.specs.Texts.{SymbolText}
use Rattle.soc_report.specs.inner.Index.{IsIndex}
use Rattle.soc_report.specs.inner.Parts.{is_slash, middle_of}

-- ---- reading symbol files

-- want of memory, or this refusal
abbrev pub OnlyBadLine : KitError → Option KitError → Type 0
OnlyBadLine (BadLine name line) found = found ≡ Some (BadLine name line)
OnlyBadLine NoMemory found = ⊤
OnlyBadLine TreeFault found = ⊥
OnlyBadLine MakerFault found = ⊥
OnlyBadLine (Missing name) found = ⊥
OnlyBadLine (BadPattern list line) found = ⊥

abbrev pub ReadsSymbol : Result Records KitError → SymbolText → Type 0
ReadsSymbol (Ok records) symbol = records_of symbol.content ≡ Ok records
ReadsSymbol (Err error) symbol = OnlyBadLine error (bad_symbols symbol)

-- these are the records of the symbol files
abbrev pub HaveRecords : List SymbolText → List Records → Type 0
HaveRecords [] [] = ⊤
HaveRecords [] (r ∷ rs) = ⊥
HaveRecords (s ∷ ss) [] = ⊥
HaveRecords (s ∷ ss) (r ∷ rs) = (records_of s.content ≡ Ok r) × HaveRecords ss rs

-- ---- looking up symbol files

abbrev pub ids_of : List SymbolText → List (List ℕ)
ids_of symbols = map (λ s. middle_of s.path) symbols

abbrev pub HasNoSlash : List ℕ → Type 0
HasNoSlash id = count_by is_slash id ≡ 0

-- between two places stands no symbol file of a module with the id
pub record LeadsOn (symbols : List SymbolText) (id : List ℕ) (start place : ℕ) : Type 0 where
  pub within : start ≤ place
  pub passed : (other : ℕ) (symbol : SymbolText) (file : List ℕ) → start ≤ other → other < place → slice_get symbols other ≡ Some symbol → symbol.path ≢ path_of file id
  pub on_chain : HasNoSlash id → place < length symbols → slice_get (ids_of symbols) place ≡ Some id

-- no symbol file has the path
abbrev pub IsNowhere : List SymbolText → List ℕ → Type 0
IsNowhere symbols target = (other : ℕ) (symbol : SymbolText) → slice_get symbols other ≡ Some symbol → symbol.path ≢ target

-- the first symbol file that has the path
pub record IsFirst (symbols : List SymbolText) (target : List ℕ) (place : ℕ) : Type 0 where
  pub symbol : SymbolText
  pub before : (other : ℕ) (earlier : SymbolText) → other < place → slice_get symbols other ≡ Some earlier → earlier.path ≢ target
  pub at : slice_get symbols place ≡ Some symbol
  pub same : symbol.path ≡ target

-- ---- a kit

pub record IsWhole (kit : Inside) : Type 0 where
  pub lists : kit.lists ≡ lists_in kit.texts.now.irrelevant kit.texts.now.prefix kit.texts.now.sentinel
  pub files : HaveRecords kit.texts.now.symbols kit.files.items
  pub index : IsIndex (ids_of kit.texts.now.symbols) kit.index
  pub digest : kit.digest ≡ sha256 (digested kit.texts.now)
