-- Changes of a log can be told apart: two of them are equal in one way at most.
use Rattle.std.proofs.Common.{◌≡◌, ℕ, zero, suc, Bool, false, List, [], Option, refl}
use Rattle.std.specs.Coded.{Coded, Coded-set, code_by, coded×, coded_ℕ, coded_bool, coded_list, coded_option}
use Rattle.soc_ledger.specs.declared.event.Event.{Event}
use Rattle.soc_ledger.specs.declared.event.Event.TheVariants as E
use Rattle.soc_service.specs.declared.change.Change.{Change}

-- an event as the number of its kind, its id and its flag
to_parts : Event → ℕ × (List ℕ × Bool)
to_parts (E.Accepted id) = (0, (id, false))
to_parts (E.Asked id) = (1, (id, false))
to_parts (E.Withdrawn id) = (2, (id, false))
to_parts (E.Reported id own) = (3, (id, own))
to_parts (E.Done id) = (4, (id, false))
to_parts E.Stopped = (5, ([], false))

of_kind : ℕ → List ℕ → Bool → Event
of_kind zero id own = E.Accepted id
of_kind (suc zero) id own = E.Asked id
of_kind (suc (suc zero)) id own = E.Withdrawn id
of_kind (suc (suc (suc zero))) id own = E.Reported id own
of_kind (suc (suc (suc (suc zero)))) id own = E.Done id
of_kind (suc (suc (suc (suc (suc n))))) id own = E.Stopped

back : (event : Event) → of_kind (to_parts event).0 (to_parts event).1.0 (to_parts event).1.1 ≡ event
unfolding of_kind to_parts
back (E.Accepted id) = refl
back (E.Asked id) = refl
back (E.Withdrawn id) = refl
back (E.Reported id own) = refl
back (E.Done id) = refl
back E.Stopped = refl

abbrev event_code : Coded Event
event_code = code_by (ℕ × (List ℕ × Bool)) (coded× coded_ℕ (coded× (coded_list coded_ℕ) coded_bool)) to_parts (λ p. of_kind p.0 p.1.0 p.1.1) back

abbrev change_code : Coded Change
change_code = code_by (Event × Option (List ℕ)) (coded× event_code (coded_option (coded_list coded_ℕ))) (λ c. (c.event, c.text)) (λ p. record { event = p.0; text = p.1 }) (λ _. refl)

pub one_log : (log other : List Change) → IsProp (log ≡ other)
one_log log other = Coded-set (coded_list change_code) log other

pub one_events : (log other : List Event) → IsProp (log ≡ other)
one_events log other = Coded-set (coded_list event_code) log other
