-- What the entries of the streams say, and the checks on each, in the order of its fields. A structure is all of the
-- file from its first byte on.
use Rattle.std.specs.Prelude.{ℕ, ◌+◌, ◌*◌, ◌%◌, ◌==◌, nat_le, List, [], ◌∷◌, ◌++◌, length, take, drop, map, encode_utf8_all}
use Rattle.std.specs.Char.Utf16.{utf16_lossy_chars}
use Rattle.byteorder.specs.Endian.{little_number}
use Rattle.soc_text.specs.Paths.{base_name_of}
use Rattle.soc_dump.specs.declared.error.DumpError.TheVariants.{OutOfFile, BadStream}
use Rattle.soc_dump.specs.declared.system.System.{System}
use Rattle.soc_dump.specs.Layout.{thread_id, thread_stack_start, thread_stack_size, thread_stack_place, thread_context_size, thread_context_place, module_list, module_base, module_length, module_name_place, module_code_view_size, module_code_view_place, string_head, string_length, memory_start, memory_length, memory_place, exception_thread, exception_code, exception_address, exception_count, exception_parameters, exception_context_size, exception_context_place, system_architecture, system_processors, system_major, system_minor, system_build, system_platform}
use Rattle.soc_dump.specs.Number.{number_of}
use Rattle.soc_dump.specs.Part.{part, places}
use Rattle.soc_dump.specs.Checks.{Check, check, inside}

pub record ThreadEntry : Type 0 where
  pub id : ℕ
  pub stack_start : ℕ
  pub stack : List ℕ
  pub context : List ℕ

pub record ModuleEntry : Type 0 where
  pub base : ℕ
  pub size : ℕ
  -- the file name of the path that it was loaded from
  pub name : List ℕ
  pub code_view : List ℕ

pub record MemoryEntry : Type 0 where
  pub start : ℕ
  pub bytes : List ℕ

pub record ExceptionEntry : Type 0 where
  pub thread : ℕ
  pub code : ℕ
  pub address : ℕ
  pub count : ℕ
  pub info : List ℕ
  pub context : List ℕ

abbrev pub thread_of : List ℕ → List ℕ → ThreadEntry
thread_of file entry = record {
  id = number_of entry thread_id;
  stack_start = number_of entry thread_stack_start;
  stack = part file (number_of entry thread_stack_place) (number_of entry thread_stack_size);
  context = part file (number_of entry thread_context_place) (number_of entry thread_context_size);
}

abbrev pub thread_checks : List ℕ → List ℕ → List Check
thread_checks file entry =
    inside file (number_of entry thread_stack_place) (number_of entry thread_stack_size)
    ∷ inside file (number_of entry thread_context_place) (number_of entry thread_context_size)
    ∷ []

-- a string: its length in bytes, and UTF-16
abbrev pub string_size : List ℕ → ℕ → ℕ
string_size file place = number_of (drop place file) string_length

abbrev pub string_at : List ℕ → ℕ → List ℕ
string_at file place = part file (place + string_head) (string_size file place)

-- of UTF-16 the lower byte of a unit comes first
abbrev pub units : List ℕ → List ℕ
units [] = []
units (low ∷ []) = []
units (low ∷ high ∷ bytes) = (low + 256 * high) ∷ units bytes

-- a surrogate without its partner is U+FFFD
abbrev pub utf16_text : List ℕ → List ℕ
utf16_text found = encode_utf8_all (utf16_lossy_chars found)

-- the file that a path in UTF-16 leads to: what follows its last `/` or `\`, or all where there is none
abbrev pub file_name_of : List ℕ → List ℕ
file_name_of path = utf16_text (base_name_of (units path))

-- the bytes that count of a module's path, and of its code view record: so a path counts by its first 2,048 units
abbrev pub counted : List ℕ → List ℕ
counted bytes = take 4_096 bytes

abbrev pub name_checks : List ℕ → ℕ → List Check
name_checks file place =
    check (nat_le (place + string_head + string_size file place) (length file)) (OutOfFile place)
    ∷ check (string_size file place % 2 == 0) (BadStream module_list place)
    ∷ []

abbrev pub module_of : List ℕ → List ℕ → ModuleEntry
module_of file entry = record {
  base = number_of entry module_base;
  size = number_of entry module_length;
  name = file_name_of (counted (string_at file (number_of entry module_name_place)));
  code_view = counted (part file (number_of entry module_code_view_place) (number_of entry module_code_view_size));
}

abbrev pub module_checks : List ℕ → List ℕ → List Check
module_checks file entry =
    name_checks file (number_of entry module_name_place)
    ++ inside file (number_of entry module_code_view_place) (number_of entry module_code_view_size)
    ∷ []

abbrev pub memory_of : List ℕ → List ℕ → MemoryEntry
memory_of file entry = record {
  start = number_of entry memory_start;
  bytes = part file (number_of entry memory_place) (number_of entry memory_length);
}

abbrev pub memory_checks : List ℕ → List ℕ → List Check
memory_checks file entry = inside file (number_of entry memory_place) (number_of entry memory_length) ∷ []

unfoldable pub parameters_of : List ℕ → List ℕ
parameters_of entry = map (λ at. little_number 8 (drop at entry)) (places exception_parameters 8 15)

abbrev pub exception_of : List ℕ → List ℕ → ExceptionEntry
exception_of file entry = record {
  thread = number_of entry exception_thread;
  code = number_of entry exception_code;
  address = number_of entry exception_address;
  count = number_of entry exception_count;
  info = parameters_of entry;
  context = part file (number_of entry exception_context_place) (number_of entry exception_context_size);
}

abbrev pub exception_checks : List ℕ → List ℕ → List Check
exception_checks file entry =
    inside file (number_of entry exception_context_place) (number_of entry exception_context_size) ∷ []

abbrev pub system_of : List ℕ → System
system_of entry = record {
  arch = number_of entry system_architecture;
  processors = number_of entry system_processors;
  major = number_of entry system_major;
  minor = number_of entry system_minor;
  build = number_of entry system_build;
  platform = number_of entry system_platform;
}
