-- Worked examples.
use Rattle.std.specs.Prelude.{◌≡◌, ℕ, false, List, [], ◌∷◌, ◌++◌, codes, Some, None, Ok, Err, refl}
use Rattle.std.specs.Str.{is_utf8, chars}
use Rattle.soc_symfile.specs.Words.{hexadecimal, decimal_number, text_of}
use Rattle.soc_symfile.specs.Line.{Other, module_line, file_line, function_line, source_line, public_line, stack_line, line_of}
use Rattle.soc_symfile.specs.Records.{Records, owners_in, records_of}
use Rattle.soc_symfile.specs.Found.{nearest, found, is_in_function}
use Rattle.soc_symfile.specs.Path.{path_of}

abbrev module_record : List ℕ
module_record = codes "MODULE Linux x86_64 0 a" ++ 10 ∷ []

abbrev records : Records
records = record {
  functions = (
    record { address = 0x1000; size = 0x10; text = codes "f(int)" },
    record { address = 0x1000; size = 8; line = 12; file = 1 } ∷ record { address = 0x1008; size = 8; line = 13; file = 1 } ∷ [],
  ) ∷ [];
  publics = record { address = 0x2000; text = codes "g" } ∷ [];
  files = record { number = 1; name = codes "a.cpp" } ∷ [];
  inits = [];
}

-- a file with a function, its lines and a public symbol
read : records_of (module_record ++ codes "FILE 1 a.cpp" ++ 10 ∷ codes "FUNC 1000 10 0 f(int)" ++ 10 ∷ codes "1000 8 12 1" ++ 10 ∷ codes "1008 8 13 1" ++ 10 ∷ codes "PUBLIC 2000 0 g")
    ≡ Ok records
unfolding records_of owners_in module_line line_of file_line function_line source_line public_line stack_line hexadecimal decimal_number text_of is_utf8 chars lib.Utf8.encode
read = refl

-- what it says of some offsets
in_a_function : found records 0x1009 ≡ record { function = Some (codes "f(int)"); file = Some (codes "a.cpp"); line = Some 13 }
unfolding nearest
in_a_function = refl

behind_a_function : found records 0x1010 ≡ record { function = None; file = None; line = None }
unfolding nearest
behind_a_function = refl

at_a_symbol : found records 0x2005 ≡ record { function = Some (codes "g"); file = None; line = None }
unfolding nearest
at_a_symbol = refl

not_in_a_function : is_in_function records 0x2005 ≡ false
unfolding nearest
not_in_a_function = refl

-- the first bad lines of some files
no_module : records_of (codes "FUNC 1000 10 0 f") ≡ Err 1
unfolding records_of module_line
no_module = refl

too_far : records_of (module_record ++ codes "FUNC ffffffffffffffff 1 0 f") ≡ Err 2
unfolding records_of module_line line_of function_line hexadecimal text_of is_utf8 chars lib.Utf8.encode
too_far = refl

line_of_no_function : records_of (module_record ++ codes "1000 8 12 1" ++ 10 ∷ codes "FUNC 1000 10 0 f") ≡ Err 2
unfolding records_of module_line line_of function_line source_line hexadecimal decimal_number text_of is_utf8 chars lib.Utf8.encode
line_of_no_function = refl

-- some lines
passed_over : line_of (codes "STACK WIN 4 x") ≡ Some Other
unfolding line_of stack_line
passed_over = refl

hexadecimal_word : line_of (codes "dead") ≡ None
unfolding line_of source_line hexadecimal
hexadecimal_word = refl

-- paths
added : path_of (codes "libxul.so") (codes "ABC0") ≡ codes "libxul.so/ABC0/libxul.so.sym"
added = refl

replaced : path_of (codes "xul.PdB") (codes "ABC1") ≡ codes "xul.PdB/ABC1/xul.sym"
replaced = refl
