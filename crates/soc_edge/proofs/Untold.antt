-- Calls of a disk that tells nothing: whatever they did, it may be said of them.
use Rattle.std.proofs.Common.{refl, inl, ℕ, ◌≤◌, arith}
use Rattle.soc_edge.specs.Disk.{Looks, MayTear}
use Rattle.soc_edge.specs.Untold.{untold_disk}
use Rattle.soc_edge.proofs.Disks.{MayTear-looks}

module _ (calls faults made failed : ℕ) (no_less : faults ≤ failed) where
  pub Looks-untold : Looks (untold_disk calls faults) (untold_disk made failed)
  Looks-untold = record {
    same = refl;
    images = λ image left. tt;
    any_moment = record { each = λ image left. tt };
    goes_on = record {
      later = omega arith;
      keeps = λ t image low left. tt;
      nothing_else = λ t image low left. inl tt;
      wider = λ s t image low left. tt;
      faults_never_fall = no_less;
    };
  }

  pub MayTear-untold : (place count : ℕ) → MayTear place count (untold_disk calls faults) (untold_disk made failed)
  MayTear-untold place count = MayTear-looks place count (untold_disk calls faults) (untold_disk made failed) Looks-untold
