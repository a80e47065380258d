-- What a symbol file says of an offset in its module.
use Rattle.std.specs.Prelude.{ℕ, ◌+◌, ◌==◌, ◌&&◌, nat_lt, nat_le, not, max, fold, Bool, if◌then◌else◌, List, map, filter, find, Option, None, Some, option_map, option_and_then, is_some}
use Rattle.std.specs.List.{list_any, last_or}
use Rattle.soc_symfile.specs.declared.entries.SourceLine.{SourceLine}
use Rattle.soc_symfile.specs.Line.{ExtentEntry, LabelEntry, FileEntry}
use Rattle.soc_symfile.specs.Records.{Records}

-- the greatest number, or 0 of none
abbrev pub greatest : List ℕ → ℕ
greatest ns = fold max 0 ns

-- of the records at or below the offset one of the greatest address, the first in the file
unfoldable pub nearest : {R : Type 0} → (R → ℕ) → ℕ → List R → Option R
nearest address offset records =
    let below = filter (λ r. nat_le (address r) offset) records in
    find (λ r. address r == greatest (map address below)) below

-- the record, where it passes the test
abbrev pub only_if : {R : Type 0} → (R → Bool) → Option R → Option R
only_if test found = option_and_then (λ r. if test r then Some r else None) found

abbrev pub covers : ℕ → ℕ → ℕ → Bool
covers offset address size = nat_le address offset && nat_lt offset (address + size)

-- the nearest function or INIT, where it covers the offset
abbrev pub owner_at : {P : Type 0} → List (ExtentEntry × List P) → ℕ → Option (ExtentEntry × List P)
owner_at owners offset =
    only_if (λ owner. covers offset owner.0.address owner.0.size) (nearest (λ owner. owner.0.address) offset owners)

-- the first source line that covers the offset
abbrev pub source_at : List SourceLine → ℕ → Option SourceLine
source_at lines offset = find (λ line. covers offset line.address line.size) lines

-- the last name that is given to a number
abbrev pub file_named : List FileEntry → ℕ → Option (List ℕ)
file_named files number = option_map (λ file. file.name) (last_or None (filter (λ file. file.number == number) files))

-- a function begins above the address, and at or below the offset
abbrev pub is_hidden : Records → ℕ → ℕ → Bool
is_hidden records offset address =
    list_any (λ owner. nat_lt address owner.0.address && nat_le owner.0.address offset) records.functions

-- the nearest public symbol, unless a function hides it
abbrev pub public_at : Records → ℕ → Option LabelEntry
public_at records offset =
    only_if (λ label. not (is_hidden records offset label.address)) (nearest (λ label. label.address) offset records.publics)

pub record Finding : Type 0 where
  pub function : Option (List ℕ)
  pub file : Option (List ℕ)
  pub line : Option ℕ

-- in a function: its name, and the file and line of its source line
abbrev pub in_function : List FileEntry → ExtentEntry → Option SourceLine → Finding
in_function files extent line = record {
  function = Some extent.text;
  file = option_and_then (λ source. file_named files source.file) line;
  line = option_map (λ source. source.line) line;
}

-- outside of functions: a public symbol's name
abbrev pub by_label : Option LabelEntry → Finding
by_label label = record { function = option_map (λ l. l.text) label; file = None; line = None }

abbrev pub finding_or : List FileEntry → ℕ → Option (ExtentEntry × List SourceLine) → Finding → Finding
finding_or files offset None other = other
finding_or files offset (Some owner) other = in_function files owner.0 (source_at owner.1 offset)

abbrev pub found : Records → ℕ → Finding
found records offset = finding_or records.files offset (owner_at records.functions offset) (by_label (public_at records offset))

-- where what names the offset begins: the function that covers it, else the public symbol before it
abbrev pub start_or : Option (ExtentEntry × List SourceLine) → Option LabelEntry → Option ℕ
start_or None label = option_map (λ l. l.address) label
start_or (Some owner) label = Some owner.0.address

abbrev pub start_of : Records → ℕ → Option ℕ
start_of records offset = start_or (owner_at records.functions offset) (public_at records offset)

-- whether a function covers the offset
abbrev pub is_in_function : Records → ℕ → Bool
is_in_function records offset = is_some (owner_at records.functions offset)
