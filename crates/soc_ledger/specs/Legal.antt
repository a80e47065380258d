-- Which logs are legal. This project's profile.
use Rattle.std.specs.Prelude.{not, IsTrue, List, [], ◌∷◌, reverse, ⊤}
use Rattle.soc_ledger.specs.declared.event.Event.{Event}
use Rattle.soc_ledger.specs.declared.event.Event.TheVariants.{Accepted, Asked, Withdrawn, Reported, Done, Stopped}
use Rattle.soc_ledger.specs.Due.{is_due}
use Rattle.soc_ledger.specs.Events.{was_accepted, is_held, has_stop}

-- an event that may follow these
abbrev pub IsLegalNext : List Event → Event → Type 0
IsLegalNext older (Accepted id) = IsTrue (not (was_accepted older id))
IsLegalNext older (Asked id) = IsTrue (is_held older id)
IsLegalNext older (Withdrawn id) = IsTrue (is_held older id)
IsLegalNext older (Reported id own) = IsTrue (is_held older id)
IsLegalNext older (Done id) = IsTrue (is_due older id)
IsLegalNext older Stopped = IsTrue (not (has_stop older))

-- the same of events of which the newest comes first
abbrev pub IsLegalBack : List Event → Type 0
IsLegalBack [] = ⊤
IsLegalBack (event ∷ older) = IsLegalNext (reverse older) event × IsLegalBack older

-- each event was legal at its place
abbrev pub IsLegal : List Event → Type 0
IsLegal log = IsLegalBack (reverse log)
