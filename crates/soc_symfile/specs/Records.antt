-- The records of a symbol file, or its first bad line.
use Rattle.std.specs.Prelude.{ℕ, ◌+◌, not, Bool, true, false, if◌then◌else◌, List, [], ◌∷◌, ◌++◌, length, map, filter_map, take_while, Option, None, Some, is_none, Result, Ok, Err}
use Rattle.std.specs.List.{list_any}
use Rattle.std.specs.Str.Lines.{lines}
use Rattle.soc_symfile.specs.declared.entries.SourceLine.{SourceLine}
use Rattle.soc_symfile.specs.Line.{ExtentEntry, LabelEntry, FileEntry, LineEntry, File, Function, Source, Public, Init, Delta, module_line, line_of}

-- all in the order of the file: functions with their source lines, public symbols, files, and INITs with their deltas
pub record Records : Type 0 where
  pub functions : List (ExtentEntry × List SourceLine)
  pub publics : List LabelEntry
  pub files : List FileEntry
  pub inits : List (ExtentEntry × List LabelEntry)

abbrev pub function_in : LineEntry → Option ExtentEntry
function_in (Function extent) = Some extent
function_in _ = None

abbrev pub source_in : LineEntry → Option SourceLine
source_in (Source line) = Some line
source_in _ = None

abbrev pub public_in : LineEntry → Option LabelEntry
public_in (Public label) = Some label
public_in _ = None

abbrev pub file_in : LineEntry → Option FileEntry
file_in (File file) = Some file
file_in _ = None

abbrev pub init_in : LineEntry → Option ExtentEntry
init_in (Init extent) = Some extent
init_in _ = None

abbrev pub delta_in : LineEntry → Option LabelEntry
delta_in (Delta label) = Some label
delta_in _ = None

abbrev pub onto_owner : {O P : Type 0} → Option O → List P → List (O × List P) → List (O × List P)
onto_owner None parts owners = owners
onto_owner (Some owner) parts owners = (owner, parts) ∷ owners

-- each owner among the items, with the parts that stand behind it and before the next owner
unfoldable pub owners_in : {A O P : Type 0} → (A → Option O) → (A → Option P) → List A → List (O × List P)
owners_in owner part [] = []
owners_in owner part (item ∷ items) =
    onto_owner (owner item) (filter_map part (take_while (λ other. is_none (owner other)) items)) (owners_in owner part items)

-- the records of good lines
abbrev pub records_in : List LineEntry → Records
records_in said = record {
  functions = owners_in function_in source_in said;
  publics = filter_map public_in said;
  files = filter_map file_in said;
  inits = owners_in init_in delta_in said;
}

-- what each line says: the first one is `MODULE`, also of an empty file
abbrev pub said_by : List (List ℕ) → List (Option LineEntry)
said_by [] = None ∷ []
said_by (first ∷ others) = module_line first ∷ map line_of others

abbrev pub is_said : {O : Type 0} → (LineEntry → Option O) → Option LineEntry → Bool
is_said kind None = false
is_said kind (Some line) = not (is_none (kind line))

-- a line is bad by itself, or since it belongs to a FUNC or an INIT and none stands before it
abbrev pub is_bad : List (Option LineEntry) → Option LineEntry → Bool
is_bad before None = true
is_bad before (Some (Source line)) = not (list_any (is_said function_in) before)
is_bad before (Some (Delta label)) = not (list_any (is_said init_in) before)
is_bad before (Some _) = false

-- how many lines stand before the first bad one
abbrev pub first_bad : List (Option LineEntry) → List (Option LineEntry) → Option ℕ
first_bad before [] = None
first_bad before (line ∷ others) = if is_bad before line then Some (length before) else first_bad (before ++ line ∷ []) others

-- the records, or the number of the first bad line, from 1
abbrev pub unless_bad : Option ℕ → Records → Result Records ℕ
unless_bad None records = Ok records
unless_bad (Some before) records = Err (before + 1)

unfoldable pub records_of : List ℕ → Result Records ℕ
records_of text = unless_bad (first_bad [] (said_by (lines text))) (records_in (filter_map (λ line. line) (said_by (lines text))))
