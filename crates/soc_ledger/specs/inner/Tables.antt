-- What the parts of a ledger hold, and how they stand to its log.
use Rattle.std.specs.Prelude.{◌≡◌, ◌==◌, ◌<◌, ◌≤◌, ◌^◌, ◌&&◌, ◌||◌, not, Bool, true, false, ℕ, List, [], ◌∷◌, ◌++◌, length, map, filter, count_by, Option, None, Some, is_some, unwrap_or, Contains, slice_get, slice_index, slice_index_or, Result, MatchResult, if◌then◌else◌, ⊤}
use Rattle.std.specs.declared.cmp.Ordering.TheVariants.{Less, Greater}
use Rattle.std.specs.List.{AllByRecursion}
use Rattle.std.specs.List.Sorted.{IsStrictlySortedBy}
use Rattle.soc_base.specs.Names.{byte_cmp}
use Rattle.soc_ledger.specs.declared.crash.Crash.{Crash}
use Rattle.soc_ledger.specs.declared.crash.Filed.{Filed}
use Rattle.soc_ledger.specs.declared.crash.Standing.{Standing}
use Rattle.soc_ledger.specs.declared.due.Due.{Due}
use Rattle.soc_ledger.specs.declared.event.Event.{Event}
use Rattle.soc_ledger.specs.declared.event.Event.TheVariants.{Accepted, Asked, Withdrawn, Reported, Done, Stopped}
use Rattle.soc_ledger.specs.Due.{is_due_at_once, waiting}
use Rattle.soc_ledger.specs.Events.{accepted_ids}
use Rattle.soc_ledger.specs.Legal.{IsLegal}
use Rattle.soc_ledger.specs.State.{standing_of}

-- events, and for how many more there is room
pub record LogTable : Type 0 where
  pub events : List Event
  pub room : ℕ

-- crashes in the order of their numbers, how each stands, and for how many more there is room
pub record CrashTable : Type 0 where
  pub filed : List Filed
  pub standings : List Standing
  pub room : ℕ

-- due crashes in their order, and for how many more there is room
pub record DueTable : Type 0 where
  pub due : List Due
  pub room : ℕ

-- ---- one crash

-- the crash that an event is of
abbrev pub about : Event → Option (List ℕ)
about (Accepted id) = Some id
about (Asked id) = Some id
about (Withdrawn id) = Some id
about (Reported id own) = Some id
about (Done id) = Some id
about Stopped = None

-- how a crash stands after an event of it at a place
abbrev pub standing_after : Event → ℕ → Standing → Standing
standing_after (Accepted id) place s = record s { due_since = if is_due_at_once id then Some place else None; is_kept = false }
standing_after (Asked id) place s = record s { due_since = Some (unwrap_or s.due_since place); is_kept = false }
standing_after (Withdrawn id) place s = record s { withdrawn = true; due_since = None }
standing_after (Reported id own) place s =
    if own then record s { due_since = None; has_report = is_some s.due_since || s.has_report; is_kept = true } else s
standing_after (Done id) place s = record s { due_since = None; has_report = true }
standing_after Stopped place s = s

-- ---- the numbers of crashes in the order of their ids

abbrev pub ids_in : List Filed → List (List ℕ)
ids_in filed = map (λ f. f.id) filed

-- the id of a number
abbrev pub id_at : List (List ℕ) → ℕ → List ℕ
id_at ids number = slice_index_or ids number []

-- each number once, in rising order of the ids
pub record IsIndex (ids : List (List ℕ)) (numbers : List ℕ) : Type 0 where
  pub within : AllByRecursion (λ number. number < length ids) numbers
  pub rising : IsStrictlySortedBy byte_cmp (map (id_at ids) numbers)
  pub whole : (number : ℕ) → number < length ids → Contains numbers number

-- where the number of an id stands (`Ok`), or else where it would stand (`Err`)
abbrev pub FindsNumber : List (List ℕ) → List ℕ → List ℕ → Result ℕ ℕ → Type 0
FindsNumber ids numbers id r =
    MatchResult r (λ i. (i < length numbers) × (id_at ids (slice_index numbers i) ≡ id))
    (λ i. (i ≤ length numbers)
    × ((k : ℕ) → k < i → byte_cmp (id_at ids (slice_index numbers k)) id ≡ Less)
    × ((k : ℕ) → i ≤ k → k < length numbers → byte_cmp (id_at ids (slice_index numbers k)) id ≡ Greater))

-- a report is shown of the crash
abbrev pub shows_report : Standing → Bool
shows_report s = not s.withdrawn && s.has_report

-- the crashes that are stored, their numbers by id, and what is counted
pub record IsCrashTable (crashes : List Crash) (by_id : List ℕ) (withdrawn reported : ℕ) : Type 0 where
  pub few : length crashes < 2 ^ 32
  pub index : IsIndex (map (λ crash. crash.filed.id) crashes) by_id
  pub count : length by_id ≡ length crashes
  pub withdrawn_count : withdrawn ≡ count_by (λ crash. crash.standing.withdrawn) crashes
  pub reported_count : reported ≡ count_by (λ crash. shows_report crash.standing) crashes

-- ---- the queue

-- each crash is due since a later place than those before it
abbrev pub IsInOrder : List Due → Type 0
IsInOrder [] = ⊤
IsInOrder (d ∷ ds) = AllByRecursion (λ later. d.since < later.since) ds × IsInOrder ds

abbrev pub AreBefore : ℕ → List Due → Type 0
AreBefore place due = AllByRecursion (λ d. d.since < place) due

-- the queue once a crash is due since another place than before
abbrev pub queue_after : ℕ → Option ℕ → Option ℕ → List Due → List Due
queue_after number None None due = due
queue_after number None (Some since) due = due ++ record { since = since; number = number } ∷ []
queue_after number (Some since) None due = filter (λ d. not (d.since == since)) due
queue_after number (Some since) (Some later) due = due

-- ---- the whole

-- a due crash by its id
abbrev pub named : List (List ℕ) → Due → ℕ × Option (List ℕ)
named ids d = (d.since, slice_get ids d.number)

-- the tables tell what the log says
pub record Tells (log : List Event) (ids : List (List ℕ)) (standings : List Standing) (due : List Due) : Type 0 where
  pub legal : IsLegal log
  pub numbers : ids ≡ accepted_ids log
  pub crashes : standings ≡ map (standing_of log) ids
  pub queue : map (named ids) due ≡ map (λ here. (here.0, Some here.1)) (waiting log)

-- the parts of a ledger: they tell what its log says, and each has the room that the ledger promises
pub record IsLedger (log : LogTable) (crashes : CrashTable) (due : DueTable) (room : ℕ) : Type 0 where
  pub tells : Tells log.events (ids_in crashes.filed) crashes.standings due.due
  pub few : length crashes.filed < 2 ^ 32
  pub log_room : room ≤ log.room
  pub crash_room : room ≤ crashes.room
  pub due_room : room ≤ due.room
