-- The log of a desk without contents: of which crash what was done, in order. This project's profile.
-- What such a log says is found by filters and recursions over the whole of it.
use Rattle.std.specs.Prelude.{ℕ, Bool, true, false, not, ◌&&◌, List, length, count_by, filter, filter_map, Option, None, Some, bytes_eq}
use Rattle.std.specs.List.{list_any}
use Rattle.soc_ledger.specs.declared.event.Event.{Event}
use Rattle.soc_ledger.specs.declared.event.Event.TheVariants.{Accepted, Asked, Withdrawn, Stopped}

abbrev pub accepted_in : Event → Option (List ℕ)
accepted_in (Accepted id) = Some id
accepted_in _ = None

abbrev pub withdrawn_in : Event → Option (List ℕ)
withdrawn_in (Withdrawn id) = Some id
withdrawn_in _ = None

-- the accepted crashes in order, withdrawn or not
abbrev pub accepted_ids : List Event → List (List ℕ)
accepted_ids log = filter_map accepted_in log

-- the withdrawn crashes in order
abbrev pub withdrawn_ids : List Event → List (List ℕ)
withdrawn_ids log = filter_map withdrawn_in log

abbrev pub is_among : List (List ℕ) → List ℕ → Bool
is_among ids id = list_any (λ other. bytes_eq other id) ids

abbrev pub was_accepted : List Event → List ℕ → Bool
was_accepted log id = is_among (accepted_ids log) id

abbrev pub was_withdrawn : List Event → List ℕ → Bool
was_withdrawn log id = is_among (withdrawn_ids log) id

-- accepted, and not withdrawn
abbrev pub is_held : List Event → List ℕ → Bool
is_held log id = was_accepted log id && not (was_withdrawn log id)

-- the held crashes, in the order in which they were accepted
abbrev pub held_ids : List Event → List (List ℕ)
held_ids log = filter (λ id. not (was_withdrawn log id)) (accepted_ids log)

abbrev pub withdrawal_count : List Event → ℕ
withdrawal_count log = length (withdrawn_ids log)

abbrev pub is_ask : Event → Bool
is_ask (Asked _) = true
is_ask _ = false

abbrev pub ask_count : List Event → ℕ
ask_count log = count_by is_ask log

abbrev pub is_stop : Event → Bool
is_stop Stopped = true
is_stop _ = false

abbrev pub has_stop : List Event → Bool
has_stop log = list_any is_stop log
