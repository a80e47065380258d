-- A desk that keeps a run's reports, with its disk before and after.
use Rattle.std.specs.Prelude.{◌≡◌, Option, None, Some}
use Rattle.soc_edge.specs.Disk.{DiskTold, Looks}
use Rattle.soc_desk.specs.declared.desk.Reply.{Reply}
use Rattle.soc_desk.specs.Basis.{Basis}
use Rattle.soc_desk.specs.State.{State}
use Rattle.soc_book.specs.Keeping.{KeepsReports}

-- without a reply nothing is done
abbrev pub KeepsDisk : Basis → State → DiskTold → Option Reply → State → DiskTold → Type 0
KeepsDisk basis last disk None kept disk' = (kept ≡ last) × Looks disk disk'
KeepsDisk basis last disk (Some said) kept disk' = KeepsReports basis last disk said kept disk'
