-- A disk that tells nothing but its counts of calls and faults: it may read as anything, and a stop may leave anything.
use Rattle.std.specs.Prelude.{ℕ, None, ⊤}
use Rattle.soc_edge.specs.Disk.{DiskTold, IsDisk}

abbrev pub untold_disk : ℕ → ℕ → DiskTold
untold_disk calls faults = record {
  content = None;
  images = λ image. ⊤;
  since = λ t image. ⊤;
  moment = 0;
  calls = calls;
  faults = faults;
}

pub IsDisk-untold : (calls faults : ℕ) → IsDisk (untold_disk calls faults)
IsDisk-untold calls faults = record {
  reads_as_image = λ bytes told. tt;
  counts_now = λ t image low now. tt;
  only_now = λ image left. tt;
  wider = λ s t image low left. tt;
}
