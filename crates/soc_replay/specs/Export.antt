-- `export`: the rows that the bearer of the input's key sees, by the files of the tree, over a disk whose journal stays. This
-- project's profile.
use Rattle.std.specs.Prelude.{◌≡◌, ◌⊎◌, ℕ, IfSome, List, Option, None, Some, Ok}
use Rattle.std.specs.List.{concat}
use Rattle.soc_raw.specs.Record.{Crash}
use Rattle.soc_schema.specs.declared.caller.Caller.{Caller}
use Rattle.soc_schema.specs.declared.value.Cell.{Cell}
use Rattle.soc_edge.specs.Disk.{DiskFailed}
use Rattle.soc_edge.specs.Told.{Told, OnlyReads, Writes, WritesFront}
use Rattle.soc_edge.specs.World.{Outside, StaysQuiet, StaysStill, Surroundings, surroundings}
use Rattle.soc_vault.specs.Openings.{StandsSince}
use Rattle.soc_desk.specs.declared.desk.Limits.{Limits}
use Rattle.soc_export.specs.Keys.{Asks}
use Rattle.soc_export.specs.Lines.{WritesSome, export_of}
use Rattle.soc_replay.specs.declared.ending.RunEnd.{RunEnd}
use Rattle.soc_replay.specs.declared.ending.RunEnd.TheVariants as R
use Rattle.soc_replay.specs.declared.refusal.FileRefusal.TheVariants as F
use Rattle.soc_replay.specs.Files.{ReachesLists, Said, Says}
use Rattle.soc_replay.specs.Opening.{OnlyOpens, OpensJournal, OpensNot, StaysSilent}
use Rattle.soc_replay.specs.Refusals.{refusal_line}
use Rattle.soc_replay.specs.Replay.{TextRefused, digest_of, rows_of}

-- ---- over a disk

-- a disk that doesn't tell its content gave back another record of a crash than it was given, and that was told
pub record CrashRefused (before after : Surroundings) (Tells : List ℕ → Type 0) : Type 0 where
  pub id : List ℕ
  pub untold : before.disk.content ≡ None
  pub draws : after.outlook ≡ before.outlook
  pub disk : OnlyOpens before.disk after.disk
  pub line : Tells (refusal_line (F.Altered id))

-- by the rows of reports, their digest and the limits
module _ (row_of : Crash → List Cell) (digest : Option (List ℕ)) (limits : Limits) (caller : Caller) where
  -- The journal is opened, and nothing is kept in it: once the first sync is done, or the empty journal is made, each stop
  -- leaves the journal of its entries. Where the disk tells its content, the caller's lines are told.
  pub record TellsRows (before after : Surroundings) (Tells : List (List ℕ) → Type 0) : Type 0 where
    pub opening : OpensJournal row_of digest limits before.disk.content
    pub draws : after.outlook ≡ before.outlook
    pub disk : OnlyOpens before.disk after.disk
    pub stands : IfSome before.disk.content (λ bytes. StandsSince before.disk after.disk bytes opening.entries)
    pub rows : IfSome before.disk.content (λ _. Tells (export_of opening.basis opening.log caller))

  -- what a caller is told of a disk's journal, by the run's end
  abbrev pub ExportsJournal : Surroundings → Surroundings → RunEnd → Type 0
  ExportsJournal before after R.Written =
      TellsRows before after (λ lines. Writes before.streams after.streams (concat lines))
  ExportsJournal before after R.LineFault =
      TellsRows before after (λ lines. WritesFront before.streams after.streams (concat lines))
      ⊎ (OpensNot before after R.LineFault ⊎ CrashRefused before after (WritesFront before.streams after.streams))
  ExportsJournal before after R.NoMemory =
      TellsRows before after (WritesSome before.streams after.streams) ⊎ StaysSilent before after
  ExportsJournal before after R.JournalRefused =
      OpensNot before after R.JournalRefused ⊎ CrashRefused before after (Writes before.streams after.streams)
  ExportsJournal before after R.OpenFault = StaysSilent before after × DiskFailed before.disk after.disk
  ExportsJournal before after _ = ⊥

-- ---- the whole

abbrev pub with_streams : Surroundings → Told → Surroundings
with_streams around streams = surroundings streams around.disk around.outlook

-- no file is refused, the caller is known by the input's first line, and the rows are told by what the files say
pub record ExportsBy (before after : Outside) (end : RunEnd) : Type 0 where
  pub said : Said
  pub says : Says before.tree.files (Ok said)
  pub asked : Told
  pub caller : Caller
  pub asks : Asks said.setup.rules.tokens said.setup.rules.public before.around.streams asked (Some caller)
  pub exports : ExportsJournal (rows_of said.texts) (digest_of said.texts) said.setup.limits caller
      (with_streams before.around asked) after.around end

-- no file is refused, the input's first line is neither empty nor the key of a token, and that was told; the disk wasn't opened
pub record KeyRefused (before after : Outside) (Tells : Told → List ℕ → Type 0) : Type 0 where
  pub said : Said
  pub says : Says before.tree.files (Ok said)
  pub asked : Told
  pub asks : Asks said.setup.rules.tokens said.setup.rules.public before.around.streams asked None
  pub quiet : StaysQuiet before.around after.around
  pub line : Tells asked (refusal_line F.UnknownKey)

-- the input was read at most
pub record OnlyAsks (before after : Surroundings) : Type 0 where
  pub quiet : StaysQuiet before after
  pub only : OnlyReads before.streams after.streams

-- no file is refused, and the input failed before its first line was read
pub record AsksNot (before after : Outside) : Type 0 where
  pub said : Said
  pub says : Says before.tree.files (Ok said)
  pub only : OnlyAsks before.around after.around

abbrev pub Exports : Outside → Outside → RunEnd → Type 0
Exports before after R.Written = ExportsBy before after R.Written
Exports before after R.JournalRefused = ExportsBy before after R.JournalRefused
Exports before after R.OpenFault = ExportsBy before after R.OpenFault
Exports before after R.TextRefused =
    TextRefused before after (Writes before.around.streams after.around.streams)
    ⊎ KeyRefused before after (λ asked. Writes asked after.around.streams)
Exports before after R.LineFault =
    TextRefused before after (WritesFront before.around.streams after.around.streams)
    ⊎ (KeyRefused before after (λ asked. WritesFront asked after.around.streams) ⊎ ExportsBy before after R.LineFault)
Exports before after R.InputFault = AsksNot before after
Exports before after R.TreeFault = StaysStill before.around after.around × (after.maker ≡ before.maker)
Exports before after R.MakerFault = StaysStill before.around after.around × IfSome before.tree.files ReachesLists
Exports before after R.NoMemory = OnlyAsks before.around after.around ⊎ ExportsBy before after R.NoMemory
Exports before after (R.Served end keeping) = ⊥
Exports before after R.Usage = ⊥
