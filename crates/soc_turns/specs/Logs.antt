-- What a shared book's log tells of the desk's log: the events, and of each change that the journal keeps the body of its
-- entry, where the disk tells its content.
use Rattle.std.specs.Prelude.{ℕ, Bool, List, map, Option, None, Some, if◌then◌else◌}
use Rattle.soc_desk.specs.Basis.{Basis}
use Rattle.soc_desk.specs.Log.{Change as Logged, keep, done, stop, event_of}
use Rattle.soc_desk.specs.State.{body_of}
use Rattle.soc_service.specs.declared.change.Change.{Change}

abbrev pub text_of : Bool → Logged → Option (List ℕ)
text_of told (keep change) = if told then Some (body_of change) else None
text_of told (done id) = None
text_of told stop = None

abbrev pub change_of : Basis → Logged → Change
change_of basis change = record { event = event_of basis change; text = text_of basis.is_told change }

abbrev pub changes_of : Basis → List Logged → List Change
changes_of basis log = map (change_of basis) log
