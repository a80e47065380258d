-- A journal that isn't opened, by the run's end.
use Rattle.std.proofs.Common.{◌≡◌, ℕ, List, [], IfSome, refl}
use Rattle.std.specs.Prelude.{◌≢◌}
use Rattle.soc_edge.specs.Ahead.{Outlook}
use Rattle.soc_edge.specs.Disk.{DiskTold, GoesOn, LeavesOnly, Looks}
use Rattle.soc_edge.specs.Told.{Told, Writes, WritesFront}
use Rattle.soc_journal.specs.declared.error.OpenError.{OpenError}
use Rattle.soc_journal.specs.declared.error.OpenError.TheVariants as E
use Rattle.soc_journal.specs.Text.{HasHeader}
use Rattle.soc_vault.specs.Openings.{OpeningLeaves}
use Rattle.soc_book.specs.Openings.{StopsAtEntry}
use Rattle.soc_replay.specs.declared.ending.RunEnd.{RunEnd}
use Rattle.soc_replay.specs.declared.ending.RunEnd.TheVariants as R
use Rattle.soc_replay.specs.declared.refusal.FileRefusal.TheVariants as F
use Rattle.soc_replay.specs.Opening.{JournalRefused, OpensNot}
use Rattle.soc_edge.specs.World.{surroundings}
use Rattle.soc_replay.specs.inner.Refusals.{JournalLine, RefusesJournalBy}

module _ (streams streams' : Told) (disk disk' : DiskTold) (outlook : Outlook)
    (goes_on : GoesOn disk disk') (leaves : IfSome disk.content (λ bytes. LeavesOnly disk disk' (OpeningLeaves disk.images bytes))) where
  line_of : (error : OpenError) (Tells : List ℕ → Type 0)
      → (error ≡ E.NotOurs → IfSome disk.content (λ bytes. (bytes ≢ []) × ¬ (HasHeader bytes)))
      → ((place : ℕ) → error ≡ E.BadEntry place → IfSome disk.content (λ bytes. StopsAtEntry bytes place))
      → (error ≢ E.StoreFault → IfSome disk.content (λ bytes. bytes ≢ [] → Looks disk disk'))
      → JournalLine error Tells → JournalRefused (surroundings streams disk outlook) (surroundings streams' disk' outlook) Tells
  line_of E.NotOurs Tells not_ours bad untouched told = record {
    refusal = F.NotJournal;
    refused = not_ours refl;
    draws = refl;
    disk = record { goes_on = goes_on; leaves = leaves };
    untouched = untouched (λ e. cc);
    line = told;
  }
  line_of (E.BadEntry place) Tells not_ours bad untouched told = record {
    refusal = F.BadEntry place;
    refused = bad place refl;
    draws = refl;
    disk = record { goes_on = goes_on; leaves = leaves };
    untouched = untouched (λ e. cc);
    line = told;
  }
  line_of E.StoreFault Tells not_ours bad untouched never = absurd never
  line_of E.NoMemory Tells not_ours bad untouched never = absurd never

  pub opens_not : (error : OpenError) (end : RunEnd)
      → (error ≡ E.NotOurs → IfSome disk.content (λ bytes. (bytes ≢ []) × ¬ (HasHeader bytes)))
      → ((place : ℕ) → error ≡ E.BadEntry place → IfSome disk.content (λ bytes. StopsAtEntry bytes place))
      → (error ≢ E.StoreFault → IfSome disk.content (λ bytes. bytes ≢ [] → Looks disk disk'))
      → RefusesJournalBy streams streams' error end → OpensNot (surroundings streams disk outlook) (surroundings streams' disk' outlook) end
  opens_not error R.JournalRefused not_ours bad untouched told = line_of error (Writes streams streams') not_ours bad untouched told
  opens_not error R.LineFault not_ours bad untouched told = line_of error (WritesFront streams streams') not_ours bad untouched told
  opens_not error R.OpenFault not_ours bad untouched told = record { draws = refl; disk = record { goes_on = goes_on; leaves = leaves }; streams = told.1 }
  opens_not error R.NoMemory not_ours bad untouched told = record { draws = refl; disk = record { goes_on = goes_on; leaves = leaves }; streams = told }
  opens_not error (R.Served _ _) not_ours bad untouched never = absurd never
  opens_not error R.Written not_ours bad untouched never = absurd never
  opens_not error R.Usage not_ours bad untouched never = absurd never
  opens_not error R.TextRefused not_ours bad untouched never = absurd never
  opens_not error R.TreeFault not_ours bad untouched never = absurd never
  opens_not error R.MakerFault not_ours bad untouched never = absurd never
  opens_not error R.InputFault not_ours bad untouched never = absurd never
