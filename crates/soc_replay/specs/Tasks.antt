-- What the program does, by its words. This project's profile.
use Rattle.std.specs.Prelude.{◌≡◌, ◌⊎◌, ℕ, List, Option, None, Some, codes}
use Rattle.soc_edge.specs.Told.{Writes, WritesFront}
use Rattle.soc_made.specs.Makes.{Makes}
use Rattle.soc_made.specs.declared.made.MakeEnd.{MakeEnd}
use Rattle.soc_made.specs.declared.made.MakeEnd.TheVariants as M
use Rattle.soc_words.specs.declared.words.Task.{Task}
use Rattle.soc_words.specs.declared.words.Task.TheVariants as T
use Rattle.soc_words.specs.declared.words.Words.{Words}
use Rattle.soc_replay.specs.declared.ending.RunEnd.{RunEnd}
use Rattle.soc_replay.specs.declared.ending.RunEnd.TheVariants as R
use Rattle.soc_replay.specs.Check.{Checks}
use Rattle.soc_replay.specs.Export.{Exports}
use Rattle.soc_edge.specs.World.{Outside, StaysQuiet, StaysStill}
use Rattle.soc_replay.specs.Replay.{Replays}

abbrev pub usage_line : List ℕ
usage_line = codes "usage: socorro check|make|replay|serve|storm|export\n"

-- neither the tree nor the maker of patterns was asked
pub record LeavesTexts (before after : Outside) : Type 0 where
  pub tree : after.tree ≡ before.tree
  pub maker : after.maker ≡ before.maker

-- the usage line was written, whole or cut short, and nothing else was done
pub record UsageTold (before after : Outside) (Tells : List ℕ → Type 0) : Type 0 where
  pub texts : LeavesTexts before after
  pub quiet : StaysQuiet before.around after.around
  pub line : Tells usage_line

abbrev pub TellsHow : Outside → Outside → RunEnd → Type 0
TellsHow before after R.Usage = UsageTold before after (Writes before.around.streams after.around.streams)
TellsHow before after R.LineFault = UsageTold before after (WritesFront before.around.streams after.around.streams)
TellsHow before after _ = ⊥

abbrev pub made_end : MakeEnd → RunEnd
made_end M.Done = R.Written
made_end M.WriteFault = R.LineFault
made_end M.NoMemory = R.NoMemory

-- the crashes were made, and nothing but the output was touched
pub record MakesCrashes (words : Words) (before after : Outside) (end : RunEnd) : Type 0 where
  pub texts : LeavesTexts before after
  pub quiet : StaysQuiet before.around after.around
  pub how : MakeEnd
  pub ends : end ≡ made_end how
  pub makes : Makes words.seed words.count before.around.streams after.around.streams how

-- the journal was looked at, and neither a file nor a pattern
pub record ChecksAlone (before after : Outside) (end : RunEnd) : Type 0 where
  pub texts : LeavesTexts before after
  pub checks : Checks before.around after.around end

-- a command, by the run's end; `serve` and `storm` are carried by another call
abbrev pub RunsTask : Words → Task → Outside → Outside → RunEnd → Type 0
RunsTask words T.Check before after end = ChecksAlone before after end
RunsTask words T.Make before after end = MakesCrashes words before after end
RunsTask words T.Replay before after end = Replays before after end
RunsTask words T.Serve before after end = TellsHow before after end
RunsTask words T.Storm before after end = TellsHow before after end
RunsTask words T.Export before after end = Exports before after end

abbrev pub RunsSaid : Option Words → Outside → Outside → RunEnd → Type 0
RunsSaid None before after end = TellsHow before after end
RunsSaid (Some words) before after end = RunsTask words words.command before after end

-- an allocation failed before the words were read, and nothing was done
pub record WantsMemory (before after : Outside) (end : RunEnd) : Type 0 where
  pub ends : end ≡ R.NoMemory
  pub texts : LeavesTexts before after
  pub still : StaysStill before.around after.around

-- a run by what its words say
abbrev pub RunsWords : Option Words → Outside → Outside → RunEnd → Type 0
RunsWords said before after end = RunsSaid said before after end ⊎ WantsMemory before after end
