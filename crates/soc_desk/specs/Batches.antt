-- What a desk over a disk does with several commands: submissions of new crashes that follow one another are written
-- together, and every other command is carried out alone.
use Rattle.std.specs.Prelude.{◌≡◌, ◌⊎◌, ℕ, ◌+◌, ◌≤◌, ◌<◌, ◌^◌, false, IsTrue, List, [], ◌∷◌, ◌++◌, length, map, ⊤}
use Rattle.std.specs.List.{AllByRecursion}
use Rattle.soc_raw.specs.RawCrash.{crash_of}
use Rattle.soc_raw.specs.declared.raw_crash.RawCrash.{RawCrash}
use Rattle.soc_edge.specs.Disk.{DiskTold, GoesOn, DiskFailed, Looks}
use Rattle.soc_journal.specs.Entries.{place_behind, sealed_all}
use Rattle.soc_ledger.specs.Due.{is_due_at_once}
use Rattle.soc_ledger.specs.Events.{accepted_ids, has_stop, was_accepted}
use Rattle.soc_desk.specs.declared.desk.Command.{Command}
use Rattle.soc_desk.specs.declared.desk.Command.TheVariants as C
use Rattle.soc_desk.specs.declared.desk.Receipt.{Receipt}
use Rattle.soc_desk.specs.declared.desk.Reply.{Reply}
use Rattle.soc_desk.specs.declared.desk.Reply.TheVariants as R
use Rattle.soc_desk.specs.declared.desk.Refusal.TheVariants as F
use Rattle.soc_desk.specs.Asks.{Asks}
use Rattle.soc_desk.specs.Basis.{Basis}
use Rattle.soc_desk.specs.Decisions.{accepting}
use Rattle.soc_desk.specs.Desk.{Step}
use Rattle.soc_desk.specs.Log.{Kept, Change, IsLegal, accept, keep, events}
use Rattle.soc_desk.specs.State.{State, settled, Settles, IsLegalState, Allowed, Survives, entries_of, kept_of}

-- ---- submissions that are written together

-- the change accepts the crash, with its content where the disk tells it
abbrev pub Accepts : Basis → RawCrash → Kept → Type 0
Accepts basis raw (accept crash) = (crash.id ≡ raw.id) × (IsTrue basis.is_told → accept crash ≡ accepting (crash_of raw))
Accepts basis raw _ = ⊥

-- the changes accept the crashes in order, and each is new to the log with those before it
abbrev pub AcceptNew : Basis → List Change → List RawCrash → List Kept → Type 0
AcceptNew basis log [] [] = ⊤
AcceptNew basis log (raw ∷ raws) (change ∷ changes) = Accepts basis raw change × (was_accepted (events basis log) raw.id ≡ false)
    × AcceptNew basis (log ++ keep change ∷ []) raws changes
AcceptNew basis log _ _ = ⊥

-- each crash was answered as stored
abbrev pub AreStored : List RawCrash → List Receipt → Type 0
AreStored [] [] = ⊤
AreStored (raw ∷ raws) (receipt ∷ receipts) = (receipt.reply ≡ R.Stored raw.id (is_due_at_once raw.id)) × AreStored raws receipts
AreStored _ _ = ⊥

-- or their one write failed
abbrev pub AllFail : List RawCrash → List Receipt → Type 0
AllFail [] [] = ⊤
AllFail (raw ∷ raws) (receipt ∷ receipts) = (receipt.reply ≡ R.Refused F.StoreFault) × AllFail raws receipts
AllFail _ _ = ⊥

-- The doubt is settled. Then the crashes, which are new and fit both limits, are written: all of them are kept, or the write
-- failed, and all of them are in doubt. Each receipt tells of the log after all of them.
pub record StoresAll (basis : Basis) (before : State) (disk : DiskTold) (raws : List RawCrash) (receipts : List Receipt) (after : State) (disk' : DiskTold) : Type 0 where
  pub log : List Change
  pub settles : Settles before.log before.doubt log
  pub changes : List Kept
  pub accepts : AcceptNew basis log raws changes
  pub few : length (accepted_ids (events basis log)) + length raws ≤ basis.crashes
  pub fits : IsTrue basis.is_told → place_behind (entries_of (kept_of log)) + length (sealed_all (entries_of changes)) ≤ basis.journal_bytes
  pub ends : ((after ≡ settled (log ++ map keep changes)) × AreStored raws receipts)
      ⊎ ((after ≡ record { log = log; doubt = changes }) × AllFail raws receipts × DiskFailed disk disk')
  pub legal : IsLegalState basis after
  pub short : length after.log < 2 ^ 60
  pub told_after : AllByRecursion (λ (receipt : Receipt). (receipt.front ≡ length after.log) × (receipt.stopped ≡ has_stop (events basis after.log))) receipts
  pub goes_on : GoesOn disk disk'
  pub survives : IsTrue basis.is_told → Survives disk disk' before after
  pub allowed : IsTrue basis.is_told → (image : List ℕ) → disk'.images image → Allowed after image

-- ---- several commands

-- a command that is carried out alone, or submissions that are written together, and the receipts
pub data Group : Type 0 where
  alone : Command → Receipt → Group
  together : List RawCrash → List Receipt → Group

abbrev pub commands_in : Group → List Command
commands_in (alone command receipt) = command ∷ []
commands_in (together raws receipts) = map C.Submit raws

abbrev pub receipts_in : Group → List Receipt
receipts_in (alone command receipt) = receipt ∷ []
receipts_in (together raws receipts) = receipts

-- what a group does to the state and the disk
abbrev pub AsksGroup : Basis → State → DiskTold → Group → State → DiskTold → Type 0
AsksGroup basis before disk (alone command receipt) after disk' = Asks basis before disk command receipt after disk'
AsksGroup basis before disk (together raws receipts) after disk' = StoresAll basis before disk raws receipts after disk'

-- the groups follow one another, each over the disk that the one before it left
abbrev pub AsksGroups : {X : Type 0} → (X → DiskTold) → Basis → State → X → List Group → State → X → Type 0
AsksGroups told basis before disk [] after disk' = (after ≡ before) × Looks (told disk) (told disk')
AsksGroups {X} told basis before disk (group ∷ groups) after disk' = (between : State) × (middle : X)
    × AsksGroup basis before (told disk) group between (told middle) × AsksGroups told basis between middle groups after disk'

-- commands and their replies, step by step
abbrev pub Runs : Basis → State → List Command → List Receipt → State → Type 0
Runs basis before [] [] after = after ≡ before
Runs basis before (command ∷ commands) (receipt ∷ receipts) after =
    (between : State) × Step basis before command receipt.reply between × Runs basis between commands receipts after
Runs basis before _ _ after = ⊥

-- submissions that were written together and all stored are a run of single steps
abbrev pub BatchesAreRuns : Type 0
BatchesAreRuns = (basis : Basis) (log : List Change) (raws : List RawCrash) (changes : List Kept) (receipts : List Receipt) → IsTrue basis.is_told → IsLegal basis log
    → AcceptNew basis log raws changes → length (accepted_ids (events basis log)) + length raws ≤ basis.crashes
    → place_behind (entries_of (kept_of log)) + length (sealed_all (entries_of changes)) ≤ basis.journal_bytes → AreStored raws receipts
    → Runs basis (settled log) (map C.Submit raws) receipts (settled (log ++ map keep changes))
