-- What the dump of a crash tells a report.
use Rattle.std.specs.Prelude.{ℕ, ◌==◌, Bool, true, false, if◌then◌else◌, List, [], ◌∷◌, ◌++◌, length, drop, codes, Option, Some, None, option_map, option_and_then}
use Rattle.std.specs.List.{list_any, position}
use Rattle.std.specs.Option.{option_map_or}
use Rattle.std.specs.Fmt.{decimal}
use Rattle.std.specs.Int.{to_be_bytes, w64}
use Rattle.hex.specs.Hex.{encode_lower}
use Rattle.soc_base.specs.Names.{value_of}
use Rattle.soc_raw.specs.Record.{Crash}
use Rattle.soc_dump.specs.declared.error.DumpError.{DumpError}
use Rattle.soc_dump.specs.declared.error.DumpError.TheVariants.{NoMagic, BadVersion, OutOfFile, BadStream, TwoStreams, NoMemory}
use Rattle.soc_dump.specs.declared.system.System.{System}
use Rattle.soc_dump.specs.Checks.{first_refusal}
use Rattle.soc_dump.specs.Directory.{directory_of, stream_count_of}
use Rattle.soc_dump.specs.Dump.{Contents, contents_of, dump_checks}
use Rattle.soc_dump.specs.Entries.{ExceptionEntry}
use Rattle.soc_dump.specs.Layout.{module_list, stream_entry_size, stream_kind}
use Rattle.soc_dump.specs.Names.{crash_reason_of}
use Rattle.soc_dump.specs.Number.{number_of}
use Rattle.soc_dump.specs.Part.{places}
use Rattle.soc_report.specs.declared.dump.Reading.{Reading}
use Rattle.soc_report.specs.declared.dump.Reading.TheVariants.{Absent, Refused, Read}

-- the dump of the crashed process, among others
abbrev pub dump_name : List ℕ
dump_name = codes "upload_file_minidump"

abbrev pub dump_at : Crash → Option (List ℕ)
dump_at crash = value_of crash.dumps dump_name

-- a dump, or the first check that refuses it
abbrev pub read_dump : List ℕ → Reading
read_dump bytes = option_map_or Refused (first_refusal (dump_checks bytes)) (Read (contents_of bytes))

abbrev pub reading_of : Crash → Reading
reading_of crash = option_map_or read_dump (dump_at crash) Absent

abbrev pub dump_in : Reading → Option Contents
dump_in Absent = None
dump_in (Refused error) = None
dump_in (Read dump) = Some dump

abbrev pub is_read : Reading → Bool
is_read reading = option_map_or (λ _. true) (dump_in reading) false

-- ---- what is noted of a dump that isn't there or is refused

abbrev pub refusal_number : DumpError → ℕ
refusal_number (NoMagic place) = 40
refusal_number (BadVersion place) = 41
refusal_number (OutOfFile place) = 42
refusal_number (BadStream kind place) = 43
refusal_number (TwoStreams kind place) = 44
refusal_number NoMemory = 0

abbrev pub refusal_place : DumpError → ℕ
refusal_place (NoMagic place) = place
refusal_place (BadVersion place) = place
refusal_place (OutOfFile place) = place
refusal_place (BadStream kind place) = place
refusal_place (TwoStreams kind place) = place
refusal_place NoMemory = 0

abbrev pub refusal_text : DumpError → List ℕ
refusal_text error =
    codes "dump refused " ++ (decimal (refusal_number error) ++ (codes " at " ++ decimal (refusal_place error)))

abbrev pub dump_notes : Reading → List (List ℕ)
dump_notes Absent = codes "no dump" ∷ []
dump_notes (Refused error) = refusal_text error ∷ []
dump_notes (Read dump) = []

-- ---- what a dump says

-- an entry of the directory names a list of modules
abbrev pub lists_modules : List ℕ → Bool
lists_modules bytes =
    list_any (λ entry. number_of (drop entry bytes) stream_kind == module_list) (places (directory_of bytes) stream_entry_size (stream_count_of bytes))

-- how many modules a dump lists, where it has a list of them
abbrev pub modules_in : List ℕ → Contents → Option ℕ
modules_in bytes dump = if lists_modules bytes then Some (length dump.modules) else None

abbrev pub module_count_of : Crash → Option ℕ
module_count_of crash = option_and_then (λ bytes. option_and_then (modules_in bytes) (dump_in (read_dump bytes))) (dump_at crash)

-- the place in the list of the first thread that has the exception's id
abbrev pub crashing_thread : Contents → Option ℕ
crashing_thread dump = option_and_then (λ e. position (λ t. t.id == e.thread) dump.threads) dump.exception

abbrev pub reason_of : Contents → Option (List ℕ)
reason_of dump = option_map (crash_reason_of (option_map (λ s. s.platform) dump.system)) dump.exception

-- `0x` and 16 digits
abbrev pub address_text : ExceptionEntry → List ℕ
address_text exception = codes "0x" ++ encode_lower (to_be_bytes w64 exception.address)

-- three numbers with dots between them
abbrev pub version_text : System → List ℕ
version_text system = decimal system.major ++ (codes "." ++ (decimal system.minor ++ (codes "." ++ decimal system.build)))
