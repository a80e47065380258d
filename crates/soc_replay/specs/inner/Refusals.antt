-- The line that tells a refusal, by what became of it.
use Rattle.std.specs.Prelude.{◌≡◌, ℕ, List}
use Rattle.soc_edge.specs.Told.{Told, Writes, WritesFront}
use Rattle.soc_journal.specs.declared.error.OpenError.{OpenError}
use Rattle.soc_journal.specs.declared.error.OpenError.TheVariants as E
use Rattle.soc_replay.specs.declared.ending.RunEnd.{RunEnd}
use Rattle.soc_replay.specs.declared.ending.RunEnd.TheVariants as R
use Rattle.soc_replay.specs.declared.refusal.FileRefusal.{FileRefusal}
use Rattle.soc_replay.specs.declared.refusal.FileRefusal.TheVariants as F
use Rattle.soc_replay.specs.declared.refusal.Line.{Line}
use Rattle.soc_replay.specs.declared.refusal.Line.TheVariants as L
use Rattle.soc_replay.specs.Refusals.{refusal_line}
use Rattle.soc_replay.specs.Tasks.{usage_line}

abbrev pub Refuses : Told → Told → List ℕ → Line → Type 0
Refuses before after line L.Written = Writes before after line
Refuses before after line L.Cut = WritesFront before after line
Refuses before after line L.NoMemory = after ≡ before

-- the line that tells why the journal is refused
abbrev pub JournalLine : OpenError → (List ℕ → Type 0) → Type 0
JournalLine E.NotOurs Tells = Tells (refusal_line F.NotJournal)
JournalLine (E.BadEntry place) Tells = Tells (refusal_line (F.BadEntry place))
JournalLine E.StoreFault Tells = ⊥
JournalLine E.NoMemory Tells = ⊥

-- how a run ends whose journal wasn't opened
abbrev pub RefusesJournalBy : Told → Told → OpenError → RunEnd → Type 0
RefusesJournalBy before after error R.JournalRefused = JournalLine error (Writes before after)
RefusesJournalBy before after error R.LineFault = JournalLine error (WritesFront before after)
RefusesJournalBy before after error R.OpenFault = (error ≡ E.StoreFault) × (after ≡ before)
RefusesJournalBy before after error R.NoMemory = after ≡ before
RefusesJournalBy before after error _ = ⊥

-- how a run ends whose files are refused
abbrev pub RefusesText : Told → Told → FileRefusal → RunEnd → Type 0
RefusesText before after refusal R.TextRefused = Writes before after (refusal_line refusal)
RefusesText before after refusal R.LineFault = WritesFront before after (refusal_line refusal)
RefusesText before after refusal R.NoMemory = after ≡ before
RefusesText before after refusal _ = ⊥

-- the usage line, written whole or cut short
abbrev pub TellsUsage : Told → Told → RunEnd → Type 0
TellsUsage before after R.Usage = Writes before after usage_line
TellsUsage before after R.LineFault = WritesFront before after usage_line
TellsUsage before after _ = ⊥
