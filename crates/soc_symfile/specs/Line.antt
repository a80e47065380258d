-- What one line of a symbol file says (Breakpad's symbol files: FILE, FUNC, PUBLIC and STACK CFI records and the source
-- lines of a function). This project's profile of them is strict: a line that begins like a record and is none is bad.
use Rattle.std.specs.Prelude.{ℕ, ◌+◌, ◌^◌, ◌&&◌, nat_lt, Bool, if◌then◌else◌, List, length, codes, Option, None, Some}
use Rattle.std.specs.Str.{bytes_eq}
use Rattle.soc_base.specs.Options.{◌>>=◌}
use Rattle.soc_symfile.specs.declared.entries.SourceLine.{SourceLine}
use Rattle.soc_symfile.specs.Words.{word, rest, is_numeral, hexadecimal, decimal_number, text_of, unmarked}

-- a function or the rules of an INIT: where it begins, how many bytes it covers, and its name or rules
pub record ExtentEntry : Type 0 where
  pub address : ℕ
  pub size : ℕ
  pub text : List ℕ

-- a public symbol or the rules of a delta: an address, and its name or rules
pub record LabelEntry : Type 0 where
  pub address : ℕ
  pub text : List ℕ

-- the name that a number stands for
pub record FileEntry : Type 0 where
  pub number : ℕ
  pub name : List ℕ

pub data LineEntry : Type 0 where
  Other : LineEntry
  File : FileEntry → LineEntry
  Function : ExtentEntry → LineEntry
  Source : SourceLine → LineEntry
  Public : LabelEntry → LineEntry
  Init : ExtentEntry → LineEntry
  Delta : LabelEntry → LineEntry

-- what is covered ends below 2^64
abbrev pub fits : ℕ → ℕ → Bool
fits address size = nat_lt (address + size) (2 ^ 64)

-- `MODULE os arch id name`, of which nothing is kept
unfoldable pub module_line : List ℕ → Option LineEntry
module_line line =
    let system = rest line in let architecture = rest system in let id = rest architecture in
    if bytes_eq (word line) (codes "MODULE") && nat_lt 0 (length (word system)) && nat_lt 0 (length (word architecture)) && nat_lt 0 (length (word id))
    then (text_of (rest id) >>= λ _. Some Other) else None

-- behind `FILE`: number and name
unfoldable pub file_line : List ℕ → Option LineEntry
file_line items = do
  number ← decimal_number (word items)
  name ← text_of (rest items)
  Some (File (record { number = number; name = name }))

-- behind `FUNC`: address, size, size of the parameters, name
unfoldable pub function_line : List ℕ → Option LineEntry
function_line items = do
  address ← hexadecimal (word items)
  size ← hexadecimal (word (rest items))
  parameters ← hexadecimal (word (rest (rest items)))
  name ← text_of (rest (rest (rest items)))
  if fits address size then Some (Function (record { address = address; size = size; text = name })) else None

-- address, size, line, number of the file
unfoldable pub source_line : List ℕ → Option LineEntry
source_line items = do
  address ← hexadecimal (word items)
  size ← hexadecimal (word (rest items))
  line ← decimal_number (word (rest (rest items)))
  file ← decimal_number (rest (rest (rest items)))
  if fits address size then Some (Source (record { address = address; size = size; line = line; file = file })) else None

-- behind `PUBLIC`: address, size of the parameters, name
unfoldable pub public_line : List ℕ → Option LineEntry
public_line items = do
  address ← hexadecimal (word items)
  parameters ← hexadecimal (word (rest items))
  name ← text_of (rest (rest items))
  Some (Public (record { address = address; text = name }))

-- behind `STACK CFI INIT`: address, size, rules
unfoldable pub init_line : List ℕ → Option LineEntry
init_line items = do
  address ← hexadecimal (word items)
  size ← hexadecimal (word (rest items))
  rules ← text_of (rest (rest items))
  if fits address size then Some (Init (record { address = address; size = size; text = rules })) else None

-- behind `STACK CFI`: address, rules
unfoldable pub delta_line : List ℕ → Option LineEntry
delta_line items = do
  address ← hexadecimal (word items)
  rules ← text_of (rest items)
  Some (Delta (record { address = address; text = rules }))

-- behind `STACK`
unfoldable pub stack_line : List ℕ → Option LineEntry
stack_line items =
    if bytes_eq (word items) (codes "CFI")
    then (if bytes_eq (word (rest items)) (codes "INIT") then init_line (rest (rest items)) else delta_line (rest items))
    else Some Other

-- what a line behind the first says, or nothing where it is bad
unfoldable pub line_of : List ℕ → Option LineEntry
line_of line =
    if bytes_eq (word line) (codes "FILE") then file_line (rest line) else (
    if bytes_eq (word line) (codes "FUNC") then function_line (unmarked (rest line)) else (
    if bytes_eq (word line) (codes "PUBLIC") then public_line (unmarked (rest line)) else (
    if bytes_eq (word line) (codes "STACK") then stack_line (rest line) else (
    if is_numeral 16 (word line) then source_line line else Some Other))))
