-- What all that lies outside tells to a run. This project's own.
use Rattle.std.specs.Prelude.{◌≡◌, ℕ, ◌≤◌}
use Rattle.soc_edge.specs.Ahead.{ClockTold, DrawsTold, Outlook, outlook}
use Rattle.soc_edge.specs.Disk.{DiskTold, DiskFailed, GoesOn, Looks}
use Rattle.soc_edge.specs.Faults.{Rose}
use Rattle.soc_edge.specs.Told.{Told, NeverFall, HasCause}
use Rattle.soc_edge.specs.Tree.{TreeTold, OnlyLooks, TreeFailed}

-- what a session and its desk meet: the streams, what clock and draws hand out, and the disk
pub record Surroundings : Type 1 where
  pub streams : Told
  pub outlook : Outlook
  pub disk : DiskTold

abbrev pub surroundings : Told → DiskTold → Outlook → Surroundings
surroundings streams disk outlook = record { streams = streams; outlook = outlook; disk = disk }

-- and beside these the tree, and how often the maker of patterns has failed
pub record Outside : Type 1 where
  pub tree : TreeTold
  pub maker : ℕ
  pub around : Surroundings

abbrev pub outside : TreeTold → ℕ → Told → DiskTold → ClockTold → DrawsTold → Outside
outside tree maker streams disk clock draws =
    record { tree = tree; maker = maker; around = surroundings streams disk (outlook clock draws) }

-- nothing was drawn, and the disk wasn't changed
pub record StaysQuiet (before after : Surroundings) : Type 0 where
  pub draws : after.outlook ≡ before.outlook
  pub disk : Looks before.disk after.disk

-- nothing was written either
pub record StaysStill (before after : Surroundings) : Type 0 where
  pub quiet : StaysQuiet before after
  pub streams : after.streams ≡ before.streams

-- whatever a run did, the files are as they were, and no fault is forgotten
pub record RunsOn (before after : Outside) : Type 0 where
  pub tree : OnlyLooks before.tree after.tree
  pub streams : NeverFall before.around.streams after.around.streams
  pub maker : before.maker ≤ after.maker
  pub disk : GoesOn before.around.disk after.around.disk

-- each status that blames an object comes only where that object failed
pub record RunHasCause (before after : Outside) (status : ℕ) : Type 0 where
  pub streams : HasCause (status ≡ 6) (status ≡ 7) before.around.streams after.around.streams
  pub tree : status ≡ 8 → TreeFailed before.tree after.tree
  pub maker : status ≡ 11 → Rose before.maker after.maker
  pub disk : status ≡ 4 → DiskFailed before.around.disk after.around.disk
