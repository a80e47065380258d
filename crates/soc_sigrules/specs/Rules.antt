-- The rules that change a signature, each from the crash and the text so far to a new text, where it applies (this
-- project's profile, after Socorro's signature rules).
use Rattle.std.specs.Prelude.{ℕ, ◌&&◌, nat_lt, nat_le, Bool, if◌then◌else◌, List, [], ◌∷◌, ◌++◌, length, codes, Option, None, Some, option_map}
use Rattle.std.specs.List.{list_any, list_all}
use Rattle.std.specs.Option.{option_map_or}
use Rattle.std.specs.Char.{is_ascii_digit}
use Rattle.std.specs.Str.{bytes_eq}
use Rattle.std.specs.Str.Parse.{digits_value}
use Rattle.soc_sigrules.specs.declared.input.SigInput.{SigInput}
use Rattle.soc_sigrules.specs.declared.crash.Marked.{Marked}
use Rattle.soc_sigrules.specs.declared.rule.Rule.{Rule}
use Rattle.soc_sigrules.specs.declared.rule.Rule.TheVariants.{OutOfMemory, Abort, Shutdown, ShutdownHang, Ipc, StackOverflow, Hang, BadHardware, Spaces, Cut}
use Rattle.soc_sigrules.specs.Chars.{first_chars, is_longer, cut, at_most}
use Rattle.soc_sigrules.specs.Shutdown.{shutdown_text}
use Rattle.soc_sigrules.specs.Spaces.{spaced}

-- 1 to 18 digits
abbrev pub is_size : List ℕ → Bool
is_size text = nat_lt 0 (length text) && (nat_le (length text) 18 && list_all is_ascii_digit text)

-- the allocation that failed: small up to 256 KiB, and then nothing else counts
abbrev pub memory_text : List ℕ → List ℕ → List ℕ
memory_text size text =
    if is_size size
    then (if nat_le (digits_value 10 size) 262144 then codes "OOM | small" else codes "OOM | large | " ++ text)
    else codes "OOM | unknown | " ++ text

abbrev pub abort_text : List ℕ → List ℕ → List ℕ
abort_text message text = codes "Abort | " ++ (at_most 80 message ++ (codes " | " ++ text))

-- an error between processes, with the first 100 characters of its text
abbrev pub ipc_text : Bool → List ℕ → List ℕ
ipc_text is_browser error = (if is_browser then codes "IPCError-browser | " else codes "IPCError-content | ") ++ first_chars 100 error

-- the watchdog's own frame
abbrev pub watchdog : List ℕ
watchdog = codes "mozilla::(anonymous namespace)::RunWatchdog"

abbrev pub has_watchdog : List (List ℕ) → Bool
has_watchdog frames = list_any (λ frame. bytes_eq frame watchdog) frames

abbrev pub only_if : Bool → List ℕ → Option (List ℕ)
only_if test text = if test then Some text else None

-- what a rule makes of the text so far; the first argument says that the watchdog is among the frames
abbrev pub apply : Bool → SigInput → Rule → List ℕ → Option (List ℕ)
apply watched input OutOfMemory text = option_map (λ size. memory_text size text) input.oom
apply watched input Abort text = option_map (λ message. abort_text message text) input.abort
apply watched input Shutdown text = option_map shutdown_text input.shutdown
apply watched input ShutdownHang text = only_if watched (codes "shutdownhang | " ++ text)
apply watched input Ipc text = option_map (ipc_text input.ipc_browser) input.ipc
apply watched input StackOverflow text = only_if input.overflow (codes "stackoverflow | " ++ text)
apply watched input Hang text = only_if input.hang (codes "hang | " ++ text)
apply watched input BadHardware text = only_if input.bad_hardware (codes "bad hardware | " ++ text)
apply watched input Spaces text = Some (spaced text)
apply watched input Cut text = only_if (is_longer 255 text) (cut 255 text)

-- the rules, in order
abbrev pub rules : List Rule
rules = OutOfMemory ∷ Abort ∷ Shutdown ∷ ShutdownHang ∷ Ipc ∷ StackOverflow ∷ Hang ∷ BadHardware ∷ Spaces ∷ Cut ∷ []

-- what a rule that applied is noted as
abbrev pub note_of : Rule → Option (List ℕ)
note_of OutOfMemory = Some (codes "oom")
note_of Abort = Some (codes "abort")
note_of Shutdown = Some (codes "shutdown")
note_of ShutdownHang = Some (codes "shutdownhang")
note_of Ipc = Some (codes "ipc")
note_of StackOverflow = Some (codes "stackoverflow")
note_of Hang = Some (codes "hang")
note_of BadHardware = Some (codes "bad_hardware")
note_of Spaces = None
note_of Cut = Some (codes "cut")

abbrev pub noted : Option (List ℕ) → List (List ℕ)
noted None = []
noted (Some note) = note ∷ []

-- the text after a rule, and the notes on those that changed it
abbrev pub after_rule : Bool → SigInput → Marked → Rule → Marked
after_rule watched input so_far rule =
    option_map_or (λ text. record { text = text; notes = so_far.notes ++ noted (note_of rule) }) (apply watched input rule so_far.text) so_far

-- the same of one rule after another
unfoldable pub after_all : Bool → SigInput → Marked → List Rule → Marked
after_all watched input so_far [] = so_far
after_all watched input so_far (rule ∷ more) = after_all watched input (after_rule watched input so_far rule) more

abbrev pub after_rules : Bool → SigInput → List ℕ → Marked
after_rules watched input text = after_all watched input (record { text = text; notes = [] }) rules
