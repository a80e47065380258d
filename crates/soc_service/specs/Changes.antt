-- The log of a shared desk: the events of the desk's log, each with the body of its journal entry, where it has one and the
-- disk tells its content. That of an accepted crash is its record.
use Rattle.std.specs.Prelude.{ℕ, suc, Bool, true, false, List, [], ◌∷◌, map, Option, None, bytes_eq, if◌then◌else◌}
use Rattle.soc_ledger.specs.declared.event.Event.{Event}
use Rattle.soc_ledger.specs.declared.event.Event.TheVariants as E
use Rattle.soc_service.specs.declared.change.Change.{Change}

abbrev pub events_in : List Change → List Event
events_in log = map (λ change. change.event) log

-- ---- what is kept

-- an event counts as kept where it is a change of the journal or the stop
abbrev pub counts : Event → Bool
counts (E.Done id) = false
counts _ = true

-- how many such events there are
abbrev pub kept_in : List Event → ℕ
kept_in [] = 0
kept_in (event ∷ events) = if counts event then suc (kept_in events) else kept_in events

-- ---- the record of a crash

abbrev pub accepts : List ℕ → Event → Bool
accepts id (E.Accepted other) = bytes_eq other id
accepts id _ = false

-- the record with which the crash of an id was accepted, where it is told
abbrev pub text_in : List Change → List ℕ → Option (List ℕ)
text_in [] id = None
text_in (change ∷ log) id = if accepts id change.event then change.text else text_in log id
