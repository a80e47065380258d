-- How the tables hold the records, and how a line adds to them.
use Rattle.std.specs.Prelude.{◌≡◌, ℕ, ◌≤◌, true, false, List, [], ◌∷◌, ◌++◌, length, map, filter_map, slice_get, slice_range, Option, Some, Result, Ok, Err, ⊤}
use Rattle.soc_symfile.specs.declared.entries.Owner.{Owner}
use Rattle.soc_symfile.specs.declared.entries.Owned.{Owned}
use Rattle.soc_symfile.specs.declared.entries.SourceLine.{SourceLine}
use Rattle.soc_symfile.specs.declared.error.SymError.{SymError}
use Rattle.soc_symfile.specs.declared.error.SymError.TheVariants.{BadLine, NoMemory}
use Rattle.soc_symfile.specs.declared.tables.Tables.TheInside.{Inside}
use Rattle.soc_symfile.specs.Line.{ExtentEntry, LabelEntry, FileEntry, LineEntry}
use Rattle.soc_symfile.specs.Records.{Records, records_in, is_bad, first_bad, unless_bad}
use Rattle.soc_symfile.specs.Views.{extent_entry, label_entry, file_entry}

-- an owner with its part of the table of all parts
abbrev pub owner_entry : {P Q : Type 0} → (P → Q) → List P → Owner → ExtentEntry × List Q
owner_entry part parts owner = (extent_entry owner.extent, map part (slice_range parts owner.first owner.end))

-- each owner's part of a table of n lies in it, and the last one's reaches to its end
abbrev pub AreLaidOut : List Owner → ℕ → Type 0
AreLaidOut [] n = ⊤
AreLaidOut (owner ∷ []) n = (owner.first ≤ owner.end) × (owner.end ≡ n)
AreLaidOut (owner ∷ next ∷ owners) n = (owner.first ≤ owner.end) × (owner.end ≤ n) × AreLaidOut (next ∷ owners) n

abbrev pub same_line : SourceLine → SourceLine
same_line line = line

abbrev pub records_held : Inside → Records
records_held t = record {
  functions = map (owner_entry same_line t.sources.items) t.functions.items;
  publics = map label_entry t.publics.items;
  files = map file_entry t.files.items;
  inits = map (owner_entry label_entry t.deltas.items) t.inits.items;
}

pub record AreTables (t : Inside) : Type 0 where
  pub functions : AreLaidOut t.functions.items (length t.sources.items)
  pub inits : AreLaidOut t.inits.items (length t.deltas.items)

-- the last owner has one part more
abbrev pub onto_last : {O P : Type 0} → P → List (O × List P) → List (O × List P)
onto_last part [] = []
onto_last part (owner ∷ []) = (owner.0, owner.1 ++ part ∷ []) ∷ []
onto_last part (owner ∷ next ∷ owners) = owner ∷ onto_last part (next ∷ owners)

-- the last owner's part ends there
abbrev pub with_end : ℕ → List Owner → List Owner
with_end end [] = []
with_end end (owner ∷ []) = record { extent = owner.extent; first = owner.first; end = end } ∷ []
with_end end (owner ∷ next ∷ owners) = owner ∷ with_end end (next ∷ owners)

abbrev pub IsBadLine : SymError → List LineEntry → LineEntry → ℕ → Type 0
IsBadLine (BadLine line) said next number = (line ≡ number) × (is_bad (map Some said) (Some next) ≡ true)
IsBadLine NoMemory said next number = ⊤

-- behind what was said, a line is bad, or the records have what it says
abbrev pub Adds : Result (Unit {0}) SymError → List LineEntry → LineEntry → ℕ → Records → Type 0
Adds (Ok done) said next number records = (is_bad (map Some said) (Some next) ≡ false) × (records ≡ records_in (said ++ next ∷ []))
Adds (Err refusal) said next number records = IsBadLine refusal said next number

abbrev pub with_functions : Records → List (ExtentEntry × List SourceLine) → Records
with_functions records functions = record records { functions = functions }

abbrev pub with_publics : Records → List LabelEntry → Records
with_publics records publics = record records { publics = publics }

abbrev pub with_files : Records → List FileEntry → Records
with_files records files = record records { files = files }

abbrev pub with_inits : Records → List (ExtentEntry × List LabelEntry) → Records
with_inits records inits = record records { inits = inits }

-- what a file's lines give, of which the first ones said this and the others say that
unfoldable pub outcome_after : List LineEntry → List (Option LineEntry) → Result Records ℕ
outcome_after said others = unless_bad (first_bad (map Some said) others) (records_in (said ++ filter_map (λ line. line) others))

-- what records are looked up by
abbrev pub owner_address : {P : Type 0} → ExtentEntry × List P → ℕ
owner_address owner = owner.0.address

abbrev pub label_address : LabelEntry → ℕ
label_address label = label.address

abbrev pub file_number : FileEntry → ℕ
file_number file = file.number

-- the owner at a place, and its parts
pub record Owns {P : Type 0} (owners : List Owner) (parts : List P) (at : ℕ) (owned : Owned P) : Type 0 where
  pub owner : Owner
  pub there : slice_get owners at ≡ Some owner
  pub extent : owned.extent ≡ owner.extent
  pub parts_are : owned.parts.now ≡ slice_range parts owner.first owner.end
