-- A minidump: its checks in their order, and what its streams hold.
use Rattle.std.specs.Prelude.{ℕ, ◌+◌, ◌-◌, ◌*◌, ◌==◌, ◌||◌, nat_le, Bool, List, [], ◌∷◌, ◌++◌, drop, map, flat_map, Option, option_map}
use Rattle.std.specs.Option.{option_map_or}
use Rattle.soc_dump.specs.declared.directory.Stream.{Stream}
use Rattle.soc_dump.specs.declared.error.DumpError.TheVariants.{BadStream}
use Rattle.soc_dump.specs.declared.system.System.{System}
use Rattle.soc_dump.specs.Layout.{list_count, thread_list, module_list, memory_list, exception_stream, system_stream, thread_size, module_size, memory_size, exception_size, system_size}
use Rattle.soc_dump.specs.Number.{number_of}
use Rattle.soc_dump.specs.Part.{places}
use Rattle.soc_dump.specs.Checks.{Check, check}
use Rattle.soc_dump.specs.Directory.{header_checks, directory_checks, used_streams, stream_of}
use Rattle.soc_dump.specs.Entries.{ThreadEntry, ModuleEntry, MemoryEntry, ExceptionEntry, thread_of, thread_checks, module_of, module_checks, memory_of, memory_checks, exception_of, exception_checks, system_of}

-- a list stream: a count of four bytes and that many entries, which may stand after four bytes of padding
abbrev pub entry_count : List ℕ → Stream → ℕ
entry_count file stream = number_of (drop stream.place file) list_count

abbrev pub is_list : List ℕ → ℕ → Stream → Bool
is_list file size stream =
    (stream.size == 4 + entry_count file stream * size) || (stream.size == 8 + entry_count file stream * size)

-- the entries, each with all of the file behind it
abbrev pub entries_from : List ℕ → ℕ → ℕ → ℕ → List (List ℕ)
entries_from file first size count = map (λ at. drop at file) (places first size count)

abbrev pub entries_of : List ℕ → ℕ → Stream → List (List ℕ)
entries_of file size stream =
    let count = entry_count file stream in entries_from file (stream.place + (stream.size - count * size)) size count

abbrev pub list_check : List ℕ → ℕ → Stream → Check
list_check file size stream = check (is_list file size stream) (BadStream stream.kind stream.place)

abbrev pub thread_list_checks : List ℕ → Stream → List Check
thread_list_checks file stream =
    list_check file thread_size stream ∷ flat_map (thread_checks file) (entries_of file thread_size stream)

abbrev pub module_list_checks : List ℕ → Stream → List Check
module_list_checks file stream =
    list_check file module_size stream ∷ flat_map (module_checks file) (entries_of file module_size stream)

abbrev pub memory_list_checks : List ℕ → Stream → List Check
memory_list_checks file stream =
    list_check file memory_size stream ∷ flat_map (memory_checks file) (entries_of file memory_size stream)

-- one structure of some bytes or more
abbrev pub exception_stream_checks : List ℕ → Stream → List Check
exception_stream_checks file stream =
    check (nat_le exception_size stream.size) (BadStream stream.kind stream.place)
    ∷ exception_checks file (drop stream.place file)

abbrev pub system_stream_checks : List ℕ → Stream → List Check
system_stream_checks file stream = check (nat_le system_size stream.size) (BadStream stream.kind stream.place) ∷ []

-- what is asked of a stream, if there is one
abbrev pub asked : (Stream → List Check) → Option Stream → List Check
asked checks stream = option_map_or checks stream []

-- the checks of the used streams, in the order of their kinds
unfoldable pub contents_checks : List ℕ → List Stream → List Check
contents_checks file streams =
    asked (thread_list_checks file) (stream_of thread_list streams)
    ++ (asked (module_list_checks file) (stream_of module_list streams)
    ++ (asked (memory_list_checks file) (stream_of memory_list streams)
    ++ (asked (exception_stream_checks file) (stream_of exception_stream streams)
    ++ asked (system_stream_checks file) (stream_of system_stream streams))))

-- all checks, in their order
unfoldable pub dump_checks : List ℕ → List Check
dump_checks file =
    header_checks file ++ (directory_checks file [] (used_streams file) ++ contents_checks file (used_streams file))

-- what a dump holds
pub record Contents : Type 0 where
  pub threads : List ThreadEntry
  pub modules : List ModuleEntry
  pub memory : List MemoryEntry
  pub exception : Option ExceptionEntry
  pub system : Option System

-- what the entries of a list say; none where there is no list
abbrev pub listed : {X : Type 0} → List ℕ → ℕ → (List ℕ → X) → Option Stream → List X
listed file size entry_of stream = option_map_or (λ s. map entry_of (entries_of file size s)) stream []

-- what the structure of a stream says, if there is one
abbrev pub told : {X : Type 0} → List ℕ → (List ℕ → X) → Option Stream → Option X
told file structure_of stream = option_map (λ s. structure_of (drop s.place file)) stream

unfoldable pub contents_in : List ℕ → List Stream → Contents
contents_in file streams = record {
  threads = listed file thread_size (thread_of file) (stream_of thread_list streams);
  modules = listed file module_size (module_of file) (stream_of module_list streams);
  memory = listed file memory_size (memory_of file) (stream_of memory_list streams);
  exception = told file (exception_of file) (stream_of exception_stream streams);
  system = told file system_of (stream_of system_stream streams);
}

abbrev pub contents_of : List ℕ → Contents
contents_of file = contents_in file (used_streams file)
