-- A check as a run of the program.
use Rattle.std.proofs.Common.{◌≡◌, ℕ, refl, sym, subst, arith}
use Rattle.soc_edge.specs.Disk.{DiskFailed}
use Rattle.soc_edge.specs.Told.{WriteFailed}
use Rattle.soc_edge.specs.Tree.{TreeTold}
use Rattle.soc_words.specs.declared.words.Task.{Task}
use Rattle.soc_words.specs.declared.words.Task.TheVariants as T
use Rattle.soc_words.specs.declared.words.Words.{Words}
use Rattle.soc_replay.specs.declared.ending.RunEnd.{RunEnd}
use Rattle.soc_replay.specs.declared.ending.RunEnd.TheVariants as R
use Rattle.soc_replay.specs.Check.{Checks}
use Rattle.soc_replay.specs.Ends.{status_of}
use Rattle.soc_edge.specs.World.{RunHasCause, Surroundings}
use Rattle.soc_replay.specs.Tasks.{RunsTask}

pub checks_task : (words : Words) (task : Task) (tree : TreeTold) (maker : ℕ) (before after : Surroundings) (end : RunEnd) → task ≡ T.Check → Checks before after end
    → RunsTask words task (record { tree = tree; maker = maker; around = before }) (record { tree = tree; maker = maker; around = after }) end
checks_task words task tree maker before after end is checks =
    subst (λ t. RunsTask words t (record { tree = tree; maker = maker; around = before }) (record { tree = tree; maker = maker; around = after }) end) (sym is)
    (record { texts = record { tree = refl; maker = refl }; checks = checks })

-- the statuses of a check
IsCheckStatus : ℕ → Type 0
IsCheckStatus status = (status ≡ 6 → ⊥) × ((status ≡ 8 → ⊥) × (status ≡ 11 → ⊥))

check_status : (before after : Surroundings) (end : RunEnd) → Checks before after end → IsCheckStatus (status_of end)
unfolding IsCheckStatus
check_status before after R.Written checks = ((λ is. omega (arith, is)), ((λ is. omega (arith, is)), (λ is. omega (arith, is))))
check_status before after R.LineFault checks = ((λ is. omega (arith, is)), ((λ is. omega (arith, is)), (λ is. omega (arith, is))))
check_status before after R.NoMemory checks = ((λ is. omega (arith, is)), ((λ is. omega (arith, is)), (λ is. omega (arith, is))))
check_status before after R.OpenFault checks = ((λ is. omega (arith, is)), ((λ is. omega (arith, is)), (λ is. omega (arith, is))))
check_status before after R.JournalRefused checks = ((λ is. omega (arith, is)), ((λ is. omega (arith, is)), (λ is. omega (arith, is))))
check_status before after (R.Served _ _) never = absurd never
check_status before after R.Usage never = absurd never
check_status before after R.TextRefused never = absurd never
check_status before after R.TreeFault never = absurd never
check_status before after R.MakerFault never = absurd never
check_status before after R.InputFault never = absurd never

pub check_cause : (tree : TreeTold) (maker : ℕ) (before after : Surroundings) (end : RunEnd) → Checks before after end
    → (status_of end ≡ 7 → WriteFailed before.streams after.streams) → (status_of end ≡ 4 → DiskFailed before.disk after.disk)
    → RunHasCause (record { tree = tree; maker = maker; around = before }) (record { tree = tree; maker = maker; around = after }) (status_of end)
unfolding IsCheckStatus
check_cause tree maker before after end checks write disk =
    let status = check_status before after end checks in
    record {
      streams = record { read = λ is. absurd (status.0 is); write = write };
      tree = λ is. absurd (status.1.0 is);
      maker = λ is. absurd (status.1.1 is);
      disk = disk;
    }
