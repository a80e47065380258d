-- A line by its first word and what stands behind it.
use Rattle.std.specs.Prelude.{ℕ, if◌then◌else◌, List, Option, None, Some, codes}
use Rattle.std.specs.Str.{bytes_eq}
use Rattle.soc_base.specs.Options.{◌>>=◌}
use Rattle.soc_symfile.specs.Line.{LineEntry, Other, Source, fits, file_line, function_line, public_line, stack_line}
use Rattle.soc_symfile.specs.Words.{word, rest, is_numeral, hexadecimal, decimal_number, unmarked}

-- a source line behind its address: size, line, number of the file
abbrev pub source_behind : ℕ → List ℕ → Option LineEntry
source_behind address items = do
  size ← hexadecimal (word items)
  line ← decimal_number (word (rest items))
  file ← decimal_number (rest (rest items))
  if fits address size then Some (Source (record { address = address; size = size; line = line; file = file })) else None

-- a line that doesn't begin with an address
unfoldable pub record_line : List ℕ → List ℕ → Option LineEntry
record_line first items =
    if bytes_eq first (codes "FILE") then file_line items else (
    if bytes_eq first (codes "FUNC") then function_line (unmarked items) else (
    if bytes_eq first (codes "PUBLIC") then public_line (unmarked items) else (
    if bytes_eq first (codes "STACK") then stack_line items else (
    if is_numeral 16 first then None else Some Other))))
