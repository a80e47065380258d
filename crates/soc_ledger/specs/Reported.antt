-- Which crashes have a report, and of which one stands behind the crash's last acceptance or asking. This project's profile.
use Rattle.std.specs.Prelude.{ℕ, Bool, false, ◌&&◌, ◌||◌, List, [], ◌∷◌, length, reverse, filter, is_some, if◌then◌else◌, bytes_eq}
use Rattle.soc_ledger.specs.declared.event.Event.{Event}
use Rattle.soc_ledger.specs.declared.event.Event.TheVariants.{Accepted, Asked, Reported, Done}
use Rattle.soc_ledger.specs.Due.{due_since_back}
use Rattle.soc_ledger.specs.Events.{held_ids}

-- whether a crash has a report after an event behind these, of which the newest comes first
abbrev pub reported_after : List ℕ → Event → List Event → Bool → Bool
reported_after id (Done other) older earlier = bytes_eq other id || earlier
reported_after id (Reported other own) older earlier = (bytes_eq other id && own && is_some (due_since_back id older)) || earlier
reported_after id _ older earlier = earlier

abbrev pub reported_back : List ℕ → List Event → Bool
reported_back id [] = false
reported_back id (event ∷ older) = reported_after id event older (reported_back id older)

-- the crash was processed, or a report of it was kept by a run with the same lists and symbols and counts as that
abbrev pub has_report : List Event → List ℕ → Bool
has_report log id = reported_back id (reverse log)

-- how many of the held crashes have a report
abbrev pub report_count : List Event → ℕ
report_count log = length (filter (has_report log) (held_ids log))

-- whether a report by the run's own lists and symbols is kept for later runs, after an event
abbrev pub kept_after : List ℕ → Event → Bool → Bool
kept_after id (Accepted other) earlier = if bytes_eq other id then false else earlier
kept_after id (Asked other) earlier = if bytes_eq other id then false else earlier
kept_after id (Reported other own) earlier = (bytes_eq other id && own) || earlier
kept_after id _ earlier = earlier

abbrev pub kept_back : List ℕ → List Event → Bool
kept_back id [] = false
kept_back id (event ∷ older) = kept_after id event (kept_back id older)

-- behind the crash's last acceptance or asking stands a report by the run's own lists and symbols
abbrev pub is_kept : List Event → List ℕ → Bool
is_kept log id = kept_back id (reverse log)
