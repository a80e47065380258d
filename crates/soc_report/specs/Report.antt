-- The report of a crash: the fields of the table, each with its source (this project's own).
use Rattle.std.specs.Prelude.{ℕ, ◌+◌, ◌==◌, if◌then◌else◌, List, [], ◌∷◌, ◌++◌, length, map, codes, Option, Some, None, option_map, option_and_then}
use Rattle.soc_raw.specs.Record.{Crash}
use Rattle.soc_dump.specs.declared.system.System.{System}
use Rattle.soc_dump.specs.Entries.{ExceptionEntry}
use Rattle.soc_dump.specs.Names.{architecture_name_of, platform_name_of}
use Rattle.soc_schema.specs.declared.value.Value.{Value}
use Rattle.soc_schema.specs.declared.value.Value.TheVariants.{Text, Number, Flag}
use Rattle.soc_schema.specs.declared.value.Cell.{Cell}
use Rattle.soc_schema.specs.Rows.{cell}
use Rattle.soc_sigrules.specs.declared.input.Signature.{Signature}
use Rattle.soc_sigrules.specs.Chars.{joined}
use Rattle.soc_sigrules.specs.Signatures.{signature_of}
use Rattle.soc_report.specs.declared.dump.Reading.{Reading}
use Rattle.soc_report.specs.Annotations.{text_at, number_at, flag_at, age_since, moment_text}
use Rattle.soc_report.specs.Cuts.{cut_text}
use Rattle.soc_report.specs.Dumps.{reading_of, dump_in, is_read, dump_notes, module_count_of, reason_of, address_text, version_text}
use Rattle.soc_report.specs.Kits.{KitEntry}
use Rattle.soc_report.specs.Stacks.{stack_of, thread_of, input_of}

-- ---- what is known of a crash

pub record Known : Type 0 where
  pub crash : Crash
  pub reading : Reading
  pub module_count : Option ℕ
  pub frame_count : ℕ
  pub signature : Signature

abbrev pub known_of : KitEntry → Crash → Known
known_of kit crash =
    let reading = reading_of crash in let dump = dump_in reading in let frames = stack_of kit dump in
    record {
      crash = crash;
      reading = reading;
      module_count = module_count_of crash;
      frame_count = length frames;
      signature = signature_of kit.lists (input_of crash dump frames);
    }

-- ---- where a field's value comes from

pub data Source : Type 0 where
  -- the name of the product
  product : Source
  -- an annotation: as a text that may be cut, as a number, as a flag, and the time from it to the crash
  text : List ℕ → Source
  number : List ℕ → Source
  flag : List ℕ → Source
  age : List ℕ → Source
  -- the rest of the raw crash
  id : Source
  moment : Source
  rule : Source
  -- the dump
  success : Source
  architecture : Source
  processors : Source
  platform : Source
  version : Source
  modules : Source
  address : Source
  reason : Source
  thread : Source
  -- the walk and the signature
  frames : Source
  signature : Source
  proto : Source
  notes : Source

-- a text that is there
abbrev pub filled : List ℕ → Option Value
filled bytes = if length bytes == 0 then None else Some (Text bytes)

-- what the dump says, and then what the signature says, with `; ` between them
abbrev pub notes_of : Known → List ℕ
notes_of known = joined (codes "; ") (dump_notes known.reading ++ known.signature.notes)

-- the dump's exception and its system, where it has them
abbrev pub exception_in : Reading → Option ExceptionEntry
exception_in reading = option_and_then (λ d. d.exception) (dump_in reading)

abbrev pub system_in : Reading → Option System
system_in reading = option_and_then (λ d. d.system) (dump_in reading)

-- the value that a source gives, if it gives one
abbrev pub value_from : Known → Source → Option Value
value_from known product = option_map Text (text_at known.crash (codes "ProductName"))
value_from known (text name) = option_map (λ t. Text (cut_text t)) (text_at known.crash name)
value_from known (number name) = option_map Number (number_at known.crash name)
value_from known (flag name) = option_map Flag (flag_at known.crash name)
value_from known (age name) = option_map Number (age_since known.crash name)
value_from known id = Some (Text known.crash.id)
value_from known moment = Some (Text (moment_text known.crash.moment))
value_from known rule = Some (Text known.crash.rule)
value_from known success = Some (Flag (is_read known.reading))
value_from known architecture = option_map (λ s. Text (architecture_name_of s.arch)) (system_in known.reading)
value_from known processors = option_map (λ s. Number s.processors) (system_in known.reading)
value_from known platform = option_map (λ s. Text (platform_name_of s.platform)) (system_in known.reading)
value_from known version = option_map (λ s. Text (version_text s)) (system_in known.reading)
value_from known modules = option_map Number known.module_count
value_from known address = option_map (λ e. Text (address_text e)) (exception_in known.reading)
value_from known reason = option_map Text (option_and_then reason_of (dump_in known.reading))
value_from known thread = option_map Number (thread_of (dump_in known.reading))
value_from known frames = option_map (λ _. Number known.frame_count) (thread_of (dump_in known.reading))
value_from known signature = Some (Text known.signature.text)
value_from known proto = filled known.signature.proto
value_from known notes = filled (notes_of known)

-- ---- the table

pub record Line : Type 0 where
  pub field : List ℕ
  pub source : Source

abbrev pub line : List ℕ → Source → Line
line field source = record { field = field; source = source }

-- in the order of the fields
unfoldable pub sources : List Line
sources =
    line (codes "abort_message") (text (codes "AbortMessage"))
    ∷ line (codes "adapter_device_id") (text (codes "AdapterDeviceID"))
    ∷ line (codes "adapter_vendor_id") (text (codes "AdapterVendorID"))
    ∷ line (codes "addons") (text (codes "Add-ons"))
    ∷ line (codes "address") address
    ∷ line (codes "async_shutdown_timeout") (text (codes "AsyncShutdownTimeout"))
    ∷ line (codes "available_page_file") (number (codes "AvailablePageFile"))
    ∷ line (codes "build_id") (number (codes "BuildID"))
    ∷ line (codes "cpu_arch") architecture
    ∷ line (codes "cpu_count") processors
    ∷ line (codes "crashing_thread") thread
    ∷ line (codes "date") moment
    ∷ line (codes "email") (text (codes "Email"))
    ∷ line (codes "frame_count") frames
    ∷ line (codes "install_age") (age (codes "InstallTime"))
    ∷ line (codes "ipc_channel_error") (text (codes "ipc_channel_error"))
    ∷ line (codes "module_count") modules
    ∷ line (codes "moz_crash_reason") (text (codes "MozCrashReason"))
    ∷ line (codes "notes") notes
    ∷ line (codes "oom_allocation_size") (number (codes "OOMAllocationSize"))
    ∷ line (codes "platform") platform
    ∷ line (codes "platform_version") version
    ∷ line (codes "process_type") (text (codes "ProcessType"))
    ∷ line (codes "product") product
    ∷ line (codes "proto_signature") proto
    ∷ line (codes "reason") reason
    ∷ line (codes "release_channel") (text (codes "ReleaseChannel"))
    ∷ line (codes "signature") signature
    ∷ line (codes "startup_crash") (flag (codes "StartupCrash"))
    ∷ line (codes "success") success
    ∷ line (codes "throttle_rule") rule
    ∷ line (codes "uptime") (age (codes "StartupTime"))
    ∷ line (codes "url") (text (codes "URL"))
    ∷ line (codes "user_comments") (text (codes "Comments"))
    ∷ line (codes "uuid") id
    ∷ line (codes "version") (text (codes "Version"))
    ∷ []

-- ---- the report

-- the values that are there, each as the field of its place, from one on
abbrev pub cells_from : ℕ → List (Option Value) → List Cell
cells_from place [] = []
cells_from place (None ∷ values) = cells_from (place + 1) values
cells_from place (Some value ∷ values) = cell place value ∷ cells_from (place + 1) values

abbrev pub values_of : Known → List (Option Value)
values_of known = map (λ l. value_from known l.source) sources

unfoldable pub report_of : Crash → KitEntry → List Cell
report_of crash kit = cells_from 0 (values_of (known_of kit crash))
