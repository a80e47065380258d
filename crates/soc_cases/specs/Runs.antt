-- What stands between two runs of the program.
use Rattle.std.specs.Prelude.{◌≡◌, ℕ, Option, Some, List}
use Rattle.soc_edge.specs.DiskLog.{DiskState, stopped}

-- the bytes that a stop leaves of a disk, by the choice that the case says
pub record IsStopped (choice : Option ℕ) (before : Option DiskState) (image : List ℕ) : Type 0 where
  pub number : ℕ
  pub disk : DiskState
  pub chosen : choice ≡ Some number
  pub was : before ≡ Some disk
  pub left : image ≡ (stopped disk.first disk.log number).image
