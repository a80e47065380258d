-- What a message's query or form says: which crash, and which of its dumps. This project's profile.
use Rattle.std.specs.Prelude.{ℕ, List, Option, None, Some, unwrap_or, codes, if◌then◌else◌}
use Rattle.std.specs.Option.{option_and_then}
use Rattle.soc_raw.specs.CrashId.{is_id}
use Rattle.soc_http.specs.Query.{first_value}

-- the crash id that a text is
abbrev pub id_in : List ℕ → Option (List ℕ)
id_in text = if is_id text then Some text else None

-- the crash that the first pair of this name names
abbrev pub crash_named : List ℕ → List (List ℕ × List ℕ) → Option (List ℕ)
crash_named name pairs = option_and_then id_in (first_value name pairs)

-- the dump that is asked for where none is named
abbrev pub first_dump : List ℕ
first_dump = codes "upload_file_minidump"

abbrev pub dump_named : List (List ℕ × List ℕ) → List ℕ
dump_named pairs = unwrap_or (first_value (codes "name") pairs) first_dump
