-- `replay`: one session over input and output, by the files of the tree, over a desk whose log a journal keeps. This
-- project's profile.
use Rattle.std.specs.Prelude.{◌≡◌, ◌⊎◌, ℕ, IfSome, List, Option, Some, Ok, Err}
use Rattle.sha2.specs.Sha256.{sha256}
use Rattle.soc_raw.specs.Record.{Crash}
use Rattle.soc_schema.specs.declared.value.Cell.{Cell}
use Rattle.soc_edge.specs.Told.{Writes, WritesFront}
use Rattle.soc_report.specs.Digests.{digested}
use Rattle.soc_report.specs.Kits.{kit_of}
use Rattle.soc_report.specs.Report.{report_of}
use Rattle.soc_report.specs.Texts.{KitTexts}
use Rattle.soc_replay.specs.declared.ending.RunEnd.{RunEnd}
use Rattle.soc_replay.specs.declared.ending.RunEnd.TheVariants as R
use Rattle.soc_replay.specs.declared.refusal.FileRefusal.{FileRefusal}
use Rattle.soc_replay.specs.declared.refusal.FilesFault.TheVariants.{Refused}
use Rattle.soc_replay.specs.Files.{ReachesLists, Said, Says}
use Rattle.soc_replay.specs.Opening.{OpensNot, StaysSilent}
use Rattle.soc_edge.specs.World.{Outside, StaysQuiet, StaysStill, Surroundings}
use Rattle.soc_replay.specs.Refusals.{refusal_line}
use Rattle.soc_replay.specs.Serving.{ServesJournal, Service, service}
use Rattle.soc_replay.specs.Stacks.{stacks_by}

-- what a run does over a disk, by its end
abbrev pub RunsDesk : Service → Surroundings → Surroundings → RunEnd → Type 0
RunsDesk by before after (R.Served end keeping) = ServesJournal by before after end keeping
RunsDesk by before after end = OpensNot before after end

-- the reports of these texts
abbrev pub rows_of : KitTexts → Crash → List Cell
rows_of texts crash = report_of crash (kit_of texts)

abbrev pub digest_of : KitTexts → Option (List ℕ)
digest_of texts = Some (sha256 (digested texts))

-- what files that say this are served by
abbrev pub service_of : Said → Service
service_of said = service (rows_of said.texts) (digest_of said.texts) (stacks_by said.texts) said.setup

-- no file is refused, and the desk is run by what they say
pub record RunsBy (before after : Outside) (end : RunEnd) : Type 0 where
  pub said : Said
  pub says : Says before.tree.files (Ok said)
  pub runs : RunsDesk (service_of said) before.around after.around end

-- the first file that is refused is told, in a line that was written whole or cut short, and nothing else was done
pub record TextRefused (before after : Outside) (Tells : List ℕ → Type 0) : Type 0 where
  pub refusal : FileRefusal
  pub says : Says before.tree.files (Err (Refused refusal))
  pub quiet : StaysQuiet before.around after.around
  pub line : Tells (refusal_line refusal)

-- Where the tree fails, no pattern was made yet. Where the maker fails, no file that stands before the lists is refused.
abbrev pub Replays : Outside → Outside → RunEnd → Type 0
Replays before after (R.Served end keeping) = RunsBy before after (R.Served end keeping)
Replays before after R.JournalRefused = RunsBy before after R.JournalRefused
Replays before after R.OpenFault = RunsBy before after R.OpenFault
Replays before after R.TextRefused = TextRefused before after (Writes before.around.streams after.around.streams)
Replays before after R.LineFault = TextRefused before after (WritesFront before.around.streams after.around.streams) ⊎ RunsBy before after R.LineFault
Replays before after R.TreeFault = StaysStill before.around after.around × (after.maker ≡ before.maker)
Replays before after R.MakerFault = StaysStill before.around after.around × IfSome before.tree.files ReachesLists
Replays before after R.NoMemory = StaysSilent before.around after.around
Replays before after R.InputFault = ⊥
Replays before after R.Written = ⊥
Replays before after R.Usage = ⊥
