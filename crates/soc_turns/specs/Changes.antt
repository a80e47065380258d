-- What the events of a book and the journal on its disk tell of its log.
use Rattle.std.specs.Prelude.{ℕ, Bool, true, false, List, [], ◌∷◌, take, drop, Option, None, if◌then◌else◌}
use Rattle.std.specs.Int.{from_le_bytes, w32}
use Rattle.std.specs.Option.{option_map}
use Rattle.soc_journal.specs.Entries.{first_gate, head_size}
use Rattle.soc_ledger.specs.declared.event.Event.{Event}
use Rattle.soc_ledger.specs.declared.event.Event.TheVariants as E
use Rattle.soc_service.specs.declared.change.Change.{Change}

-- ---- the entry with which bytes begin

-- how many bytes its body has: its head ends in them
abbrev pub first_length : List ℕ → ℕ
first_length bytes = from_le_bytes w32 (take 4 (drop 2 bytes))

abbrev pub first_body : List ℕ → List ℕ
first_body bytes = take (first_length bytes) (drop head_size bytes)

abbrev pub behind_first : List ℕ → List ℕ
behind_first bytes = drop (first_length bytes) (drop head_size bytes)

-- ---- the log

-- a journal has an entry for the event
abbrev pub has_entry : Event → Bool
has_entry (E.Done id) = false
has_entry E.Stopped = false
has_entry _ = true

-- the log of these events, whose entries stand one behind the other where the bytes begin
abbrev pub changes_from : Option (List ℕ) → List Event → List Change
changes_from bytes [] = []
changes_from bytes (event ∷ events) = record { event = event; text = if has_entry event then option_map first_body bytes else None }
    ∷ changes_from (if has_entry event then option_map behind_first bytes else bytes) events

-- the log of these events, with the bodies of their entries where the disk tells its content
abbrev pub changes_at : Bool → Option (List ℕ) → List Event → List Change
changes_at told content events = changes_from (if told then option_map (λ bytes. drop first_gate bytes) content else None) events
