-- A run that serves a journal is a life of the desk. This project's profile.
use Rattle.std.specs.Prelude.{◌≡◌, ℕ, List, [], ◌∷◌, ◌++◌, Some}
use Rattle.std.specs.Option.{option_map_or}
use Rattle.soc_edge.specs.Ahead.{Outlook}
use Rattle.soc_edge.specs.Disk.{DiskTold}
use Rattle.soc_edge.specs.Told.{Told}
use Rattle.soc_edge.specs.World.{surroundings}
use Rattle.soc_desk.specs.declared.desk.Command.{Command}
use Rattle.soc_desk.specs.declared.desk.Receipt.{Receipt}
use Rattle.soc_desk.specs.Log.{Kept}
use Rattle.soc_desk.specs.Opens.{log_of}
use Rattle.soc_lives.specs.Lives.{Action, keeping}
use Rattle.soc_lives.specs.Runs.{IsLife, actions_of}
use Rattle.soc_session.specs.declared.ending.SessionEnd.{SessionEnd}
use Rattle.soc_session.specs.Session.{Response, met, refused}
use Rattle.soc_replay.specs.declared.ending.Keeping.{Keeping}
use Rattle.soc_replay.specs.Serving.{ServesJournal, Service, keep_reply}

-- what the desk was asked for the messages that these responses answer
abbrev pub asked_in : List Response → List (Command × Receipt)
asked_in [] = []
asked_in (met exchange ∷ responses) =
    option_map_or (λ asking. (asking.command, asking.receipt) ∷ asked_in responses) exchange.asked (asked_in responses)
asked_in (refused error ∷ responses) = asked_in responses

-- the keeping of reports, where they were to be kept
abbrev pub keeping_by : Keeping → List Action
keeping_by how = option_map_or (λ reply. keeping reply ∷ []) (keep_reply how) []

-- Over a disk that holds these bytes, a run that serves its journal is a life: it opens with the journal's changes and goes by
-- the basis of its files, and what it does is what was asked for the messages, and the keeping.
abbrev pub RunsAreLives : DiskTold → DiskTold → Type 0
RunsAreLives disk disk' = (bytes : List ℕ) → disk.content ≡ Some bytes
    → (by : Service) (streams streams' : Told) (ahead ahead' : Outlook) (end : SessionEnd) (how : Keeping)
    → (run : ServesJournal by (surroundings streams disk ahead) (surroundings streams' disk' ahead') end how)
    → (opening : List Kept) × (run.opening.log ≡ log_of opening)
    × IsLife run.opening.basis disk'.since bytes opening run.opened.moment
    (actions_of (asked_in run.serves.responses) ++ keeping_by how) run.kept
