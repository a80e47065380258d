-- What a command's turn leaves to do and to count.
use Rattle.std.specs.Prelude.{ℕ, Bool, true, false, List, Option, None, Some, if◌then◌else◌}
use Rattle.soc_desk.specs.declared.desk.Command.{Command}
use Rattle.soc_desk.specs.declared.desk.Command.TheVariants as C
use Rattle.soc_desk.specs.declared.desk.Reply.{Reply}
use Rattle.soc_desk.specs.declared.desk.Reply.TheVariants as R

-- the crash that a command asks for
abbrev pub asked_id : Command → Option (List ℕ)
asked_id (C.Priority caller id) = Some id
asked_id (C.Reprocess caller id) = Some id
asked_id _ = None

-- the crash that a reply says is due, where the command asked for this one
abbrev pub due_after : Option (List ℕ) → Reply → Option (List ℕ)
due_after asked (R.Stored id due) = if due then Some id else None
due_after asked (R.Asked said due) = if due then asked else None
due_after asked _ = None

-- what the command adds to the log is kept, each change of it: else it adds that crashes were processed
abbrev pub keeps_all : Command → Bool
keeps_all (C.Turn caller) = false
keeps_all (C.Drain caller) = false
keeps_all (C.Finish processed) = false
keeps_all _ = true
