-- Which crashes are due: those of digit 0 and those that were asked for, until they are processed or withdrawn.
-- This project's profile.
use Rattle.std.specs.Prelude.{ℕ, ◌==◌, Bool, false, ◌&&◌, List, [], ◌∷◌, length, map, reverse, filter, filter_map, Option, None, Some, is_some, unwrap_or, if◌then◌else◌, slice_index, bytes_eq}
use Rattle.std.specs.Option.{option_map, option_map_or}
use Rattle.std.specs.List.{enumerate_from}
use Rattle.soc_raw.specs.CrashId.{digit_place}
use Rattle.soc_raw.specs.Digit.{digit_code}
use Rattle.soc_raw.specs.declared.digit.Digit.TheVariants as digit
use Rattle.soc_ledger.specs.declared.event.Event.{Event}
use Rattle.soc_ledger.specs.declared.event.Event.TheVariants.{Accepted, Asked, Withdrawn, Reported, Done, Stopped}

-- the digit of a crash id says that the crash is due as soon as it is accepted
abbrev pub is_due_at_once : List ℕ → Bool
is_due_at_once id = slice_index id digit_place == digit_code digit.Accepted

-- since which place a crash is due after an event at a place, if it was due since `earlier` before it.
-- A report that was made by the run's own lists and symbols counts as `Done`; every other report counts as nothing.
abbrev pub due_after : List ℕ → Event → ℕ → Option ℕ → Option ℕ
due_after id (Accepted other) place earlier =
    if bytes_eq other id then (if is_due_at_once other then Some place else None) else earlier
due_after id (Asked other) place earlier = if bytes_eq other id then Some (unwrap_or earlier place) else earlier
due_after id (Withdrawn other) place earlier = if bytes_eq other id then None else earlier
due_after id (Reported other own) place earlier = if bytes_eq other id && own then None else earlier
due_after id (Done other) place earlier = if bytes_eq other id then None else earlier
due_after id Stopped place earlier = earlier

-- the same of events of which the newest comes first
abbrev pub due_since_back : List ℕ → List Event → Option ℕ
due_since_back id [] = None
due_since_back id (event ∷ older) = due_after id event (length older) (due_since_back id older)

-- the place of the first event since the crash was last processed that makes it due, where it is due
abbrev pub due_since : List Event → List ℕ → Option ℕ
due_since log id = due_since_back id (reverse log)

abbrev pub is_due : List Event → List ℕ → Bool
is_due log id = is_some (due_since log id)

-- the crash that an event may make due
abbrev pub urged_in : Event → Option (List ℕ)
urged_in (Accepted id) = Some id
urged_in (Asked id) = Some id
urged_in _ = None

-- the crash that an event may make due, and the event's place
abbrev pub urged_by : ℕ × Event → Option (ℕ × List ℕ)
urged_by here = option_map (λ id. (here.0, id)) (urged_in here.1)

abbrev pub urged : List Event → List (ℕ × List ℕ)
urged log = filter_map urged_by (enumerate_from 0 log)

-- the crash is due since this place
abbrev pub is_since : List Event → ℕ × List ℕ → Bool
is_since log here = option_map_or (λ since. since == here.0) (due_since log here.1) false

-- the due crashes, each behind the place since which it is due, in the order of these places
abbrev pub waiting : List Event → List (ℕ × List ℕ)
waiting log = filter (is_since log) (urged log)

-- the due crashes, in the order of the events that make them due
abbrev pub due_ids : List Event → List (List ℕ)
due_ids log = map (λ here. here.1) (waiting log)
