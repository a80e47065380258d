-- A crash's stack as an engineer reads it, as JSON (RFC 8259): compact, names in byte order, `null` for what is absent. A
-- function of raw crash, kit and caller, by the walk's own definitions. Of a walk's 1,024 frames at most and the first 1,024
-- modules each text is shown up to 1,024 bytes, so that it is bounded whatever a dump holds. This project's profile.
use Rattle.std.specs.Prelude.{ℕ, ◌==◌, Bool, true, false, if◌then◌else◌, List, [], ◌++◌, length, take, codes, decimal, Option, None, Some, option_map, is_some}
use Rattle.std.specs.List.{enumerate_from}
use Rattle.std.specs.Option.{option_map_or}
use Rattle.serde_json.specs.Data.{string}
use Rattle.serde_json.specs.Written.{compact_text}
use Rattle.soc_raw.specs.Record.{Crash}
use Rattle.soc_dump.specs.declared.error.DumpError.{DumpError}
use Rattle.soc_dump.specs.Dump.{Contents}
use Rattle.soc_dump.specs.Entries.{ModuleEntry}
use Rattle.soc_dump.specs.Identity.{debug_file_of, debug_id_of}
use Rattle.soc_frames.specs.declared.frame.Frame.{Frame}
use Rattle.soc_frames.specs.declared.frame.Trust.{Trust}
use Rattle.soc_frames.specs.declared.frame.Trust.TheVariants.{Context, Cfi, FramePointer, Scan}
use Rattle.soc_frames.specs.Frames.{hexadecimal, normal_of}
use Rattle.soc_schema.specs.declared.caller.Caller.{Caller}
use Rattle.soc_schema.specs.Commas.{joined}
use Rattle.soc_schema.specs.Permits.{is_granted}
use Rattle.soc_siglists.specs.Lists.{ListTexts, is_irrelevant, is_prefix, is_sentinel}
use Rattle.soc_step.specs.Step.{lookup_address}
use Rattle.soc_walk.specs.Process.{ProcessEntry, into_function, process_of, symbols_for}
use Rattle.soc_walk.specs.Walk.{frames_of, start_of}
use Rattle.soc_walk.specs.declared.walking.Start.{Start}
use Rattle.soc_report.specs.declared.dump.Reading.{Reading}
use Rattle.soc_report.specs.declared.dump.Reading.TheVariants.{Absent, Refused, Read}
use Rattle.soc_report.specs.Cuts.{cut_text}
use Rattle.soc_report.specs.Dumps.{address_text, crashing_thread, reading_of, reason_of, refusal_number, refusal_place}
use Rattle.soc_report.specs.Kits.{KitEntry, symbols_in}

-- ---- pieces

abbrev pub or_null : {A : Type 0} → (A → List ℕ) → Option A → List ℕ
or_null json value = option_map_or json value (codes "null")

-- a text's first bytes, up to the limit, at the end of a character
unfoldable pub text_json : List ℕ → List ℕ
text_json text = compact_text (string (cut_text text))

-- as a text, `0x` and the digits
unfoldable pub place_json : ℕ → List ℕ
place_json place = codes "\"0x" ++ (hexadecimal place ++ codes "\"")

abbrev pub number_json : ℕ → List ℕ
number_json number = decimal number

abbrev pub flag_json : Bool → List ℕ
flag_json true = codes "true"
flag_json false = codes "false"

-- the fields by whose permission an address, and where a dump was refused, are shown
abbrev pub address_field : ℕ
address_field = 4

abbrev pub notes_field : ℕ
notes_field = 18

-- ---- frames

-- how a frame was found
abbrev pub trust_name : Trust → List ℕ
trust_name Context = codes "context"
trust_name Cfi = codes "cfi"
trust_name FramePointer = codes "frame_pointer"
trust_name Scan = codes "scan"

-- the first of the lists that says something of a frame's text
abbrev pub kind_of : ListTexts → List ℕ → Option (List ℕ)
kind_of lists text =
    if is_irrelevant lists text then Some (codes "irrelevant")
    else if is_prefix lists text then Some (codes "prefix")
    else if is_sentinel lists text then Some (codes "sentinel")
    else None

-- a frame at its place, from 0, with its text and what the lists say of that: offsets are of the address that was looked up
unfoldable pub known_json : ProcessEntry → ℕ → Frame → List ℕ → Option (List ℕ) → List ℕ
known_json process place frame text kind =
    codes "{\"file\":" ++ (or_null text_json frame.file
    ++ (codes ",\"frame\":" ++ (number_json place
    ++ (codes ",\"function\":" ++ (or_null text_json frame.function
    ++ (codes ",\"function_offset\":" ++ (or_null place_json (into_function process (lookup_address (place == 0) frame.instruction) frame.offset)
    ++ (codes ",\"kind\":" ++ (or_null text_json kind
    ++ (codes ",\"line\":" ++ (or_null number_json frame.line
    ++ (codes ",\"module\":" ++ (or_null text_json frame.module
    ++ (codes ",\"module_offset\":" ++ (or_null place_json (option_map (λ _. frame.offset) frame.module)
    ++ (codes ",\"text\":" ++ (text_json text
    ++ (codes ",\"trust\":" ++ (text_json (trust_name frame.trust) ++ codes "}")))))))))))))))))))

abbrev pub frame_json : ListTexts → ProcessEntry → ℕ → Frame → List ℕ
frame_json lists process place frame = let text = normal_of frame in known_json process place frame text (kind_of lists text)

abbrev pub frames_json : ListTexts → ProcessEntry → List Frame → List ℕ
frames_json lists process frames = joined (λ p. frame_json lists process p.0 p.1) (enumerate_from 0 frames)

-- the frames of a thread; none where its walk can't begin
abbrev pub thread_json : KitEntry → Contents → ℕ → List ℕ
thread_json kit dump thread =
    option_map_or (λ (start : Start). frames_json kit.lists (process_of (symbols_in kit) dump start.architecture) (frames_of (symbols_in kit) dump thread)) (start_of dump thread) []

-- the frames of the crashing thread; none without one
abbrev pub stack_json : KitEntry → Contents → List ℕ
stack_json kit dump = option_map_or (thread_json kit dump) (crashing_thread dump) []

-- ---- modules

-- a name, where there is one
abbrev pub shown : List ℕ → Option (List ℕ)
shown name = if length name == 0 then None else Some name

-- a module at its base with its size, the names of its files, its id, and whether it has symbols
unfoldable pub named_json : ℕ → ℕ → List ℕ → Option (List ℕ) → Option (List ℕ) → Bool → List ℕ
named_json base size code_file debug_file debug_id has_symbols =
    codes "{\"base\":" ++ (place_json base
    ++ (codes ",\"code_file\":" ++ (text_json code_file
    ++ (codes ",\"debug_file\":" ++ (or_null text_json debug_file
    ++ (codes ",\"debug_id\":" ++ (or_null text_json debug_id
    ++ (codes ",\"size\":" ++ (number_json size
    ++ (codes ",\"symbols\":" ++ (flag_json has_symbols ++ codes "}")))))))))))

abbrev pub module_json : KitEntry → ModuleEntry → List ℕ
module_json kit entry =
    named_json entry.base entry.size entry.name (shown (debug_file_of entry)) (shown (debug_id_of entry.code_view)) (is_some (symbols_for (symbols_in kit) entry))

abbrev pub most_modules : ℕ
most_modules = 1024

-- the first modules of a dump, whatever the architecture is
abbrev pub modules_json : KitEntry → Contents → List ℕ
modules_json kit dump = joined (module_json kit) (take most_modules dump.modules)

-- ---- the whole

-- where the exception happened, where the caller may see it
abbrev pub address_shown : Caller → Contents → Option (List ℕ)
address_shown caller dump = if is_granted caller address_field then option_map address_text dump.exception else None

-- a dump that was read, with the address and the reason of its exception
unfoldable pub told_json : KitEntry → List ℕ → Contents → Option (List ℕ) → Option (List ℕ) → List ℕ
told_json kit id dump address reason =
    codes "{\"address\":" ++ (or_null text_json address
    ++ (codes ",\"crash_id\":" ++ (text_json id
    ++ (codes ",\"crashing_thread\":" ++ (or_null number_json (crashing_thread dump)
    ++ (codes ",\"frames\":[" ++ (stack_json kit dump
    ++ (codes "],\"modules\":[" ++ (modules_json kit dump
    ++ (codes "],\"reason\":" ++ (or_null text_json reason ++ codes ",\"refused\":null}")))))))))))

abbrev pub read_json : KitEntry → Caller → List ℕ → Contents → List ℕ
read_json kit caller id dump = told_json kit id dump (address_shown caller dump) (reason_of dump)

-- why a dump was refused, and where: both by the permission of notes
abbrev pub refusal_json : Caller → DumpError → List ℕ
refusal_json caller error =
    if is_granted caller notes_field
    then codes "{\"number\":" ++ (number_json (refusal_number error) ++ (codes ",\"place\":" ++ (number_json (refusal_place error) ++ codes "}")))
    else codes "{\"number\":null,\"place\":null}"

-- a dump that was refused has nothing but its refusal
unfoldable pub refused_json : Caller → List ℕ → DumpError → List ℕ
refused_json caller id error =
    codes "{\"address\":null,\"crash_id\":" ++ (text_json id
    ++ (codes ",\"crashing_thread\":null,\"frames\":[],\"modules\":[],\"reason\":null,\"refused\":" ++ (refusal_json caller error ++ codes "}")))

abbrev pub stack_read : KitEntry → Caller → List ℕ → Reading → Option (List ℕ)
stack_read kit caller id Absent = None
stack_read kit caller id (Refused error) = Some (refused_json caller id error)
stack_read kit caller id (Read dump) = Some (read_json kit caller id dump)

-- the stack of a crash; none without a dump of its process
abbrev pub stack_text : KitEntry → Caller → Crash → Option (List ℕ)
stack_text kit caller crash = stack_read kit caller crash.id (reading_of crash)
