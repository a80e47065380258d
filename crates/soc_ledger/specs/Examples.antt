-- Worked logs: what is accepted, held, due, reported and kept.
use Rattle.std.specs.Prelude.{◌≡◌, ℕ, List, [], ◌∷◌, ◌++◌, codes, true, false, Some, refl}
use Rattle.soc_ledger.specs.declared.event.Event.{Event}
use Rattle.soc_ledger.specs.declared.event.Event.TheVariants.{Accepted, Asked, Withdrawn, Reported, Done, Stopped}
use Rattle.soc_ledger.specs.Due.{due_ids, due_since}
use Rattle.soc_ledger.specs.Events.{accepted_ids, ask_count, has_stop, held_ids, withdrawal_count}
use Rattle.soc_ledger.specs.Legal.{IsLegal}
use Rattle.soc_ledger.specs.Reported.{has_report, is_kept, report_count}

-- due at once, and due only when it is asked for
abbrev first : List ℕ
first = codes "de1bb258-cbbf-4589-a673-34f800160918"

abbrev second : List ℕ
second = codes "de1bb258-cbbf-4589-a673-34f801160918"

abbrev two : List Event
two = Accepted first ∷ Accepted second ∷ []

due_at_once : due_ids two ≡ first ∷ []
due_at_once = refl

-- a crash that was asked for twice is due since the first time
abbrev asked_twice : List Event
asked_twice = two ++ Asked second ∷ Done first ∷ Asked first ∷ Asked second ∷ []

since_the_first : due_since asked_twice second ≡ Some 2
since_the_first = refl

due_in_order : due_ids asked_twice ≡ second ∷ first ∷ []
due_in_order = refl

nothing_due : due_ids (asked_twice ++ Done second ∷ Done first ∷ []) ≡ []
nothing_due = refl

asks : ask_count asked_twice ≡ 3
asks = refl

reported_once : report_count (asked_twice ++ Done second ∷ Done first ∷ []) ≡ 2
reported_once = refl

-- a report counts only by the run's own lists and symbols, and only where its crash is due
own_report : due_ids (two ++ Reported first true ∷ []) ≡ []
own_report = refl

own_report_counts : has_report (two ++ Reported first true ∷ []) first ≡ true
own_report_counts = refl

other_report : due_ids (two ++ Reported first false ∷ []) ≡ first ∷ []
other_report = refl

other_report_counts : has_report (two ++ Reported first false ∷ []) first ≡ false
other_report_counts = refl

not_due : has_report (two ++ Reported second true ∷ []) second ≡ false
not_due = refl

-- it is kept until the crash is asked for again
kept : is_kept (two ++ Done first ∷ Reported first true ∷ []) first ≡ true
kept = refl

asked_again : is_kept (two ++ Done first ∷ Reported first true ∷ Asked first ∷ []) first ≡ false
asked_again = refl

-- a withdrawn crash is nowhere, and still counts as accepted
abbrev with_withdrawal : List Event
with_withdrawal = two ++ Done first ∷ Withdrawn first ∷ []

not_held : held_ids with_withdrawal ≡ second ∷ []
not_held = refl

not_reported : report_count with_withdrawal ≡ 0
not_reported = refl

still_accepted : accepted_ids with_withdrawal ≡ first ∷ second ∷ []
still_accepted = refl

withdrawals : withdrawal_count with_withdrawal ≡ 1
withdrawals = refl

not_due_anymore : due_ids (two ++ Withdrawn first ∷ []) ≡ []
not_due_anymore = refl

-- every kind of event
abbrev every_kind : List Event
every_kind = asked_twice ++ Done second ∷ Reported second true ∷ Withdrawn first ∷ Stopped ∷ []

stopped : has_stop every_kind ≡ true
stopped = refl

not_stopped : has_stop asked_twice ≡ false
not_stopped = refl

legal : IsLegal every_kind
legal = (refl, (refl, (refl, (refl, (refl, (refl, (refl, (refl, (refl, (refl, tt))))))))))
