-- What a tree of files tells of itself. This project's own.
use Rattle.std.specs.Prelude.{◌≡◌, ℕ, ◌≤◌, Option, List}
use Rattle.soc_edge.specs.Faults.{Rose}

-- the bytes of the file of each name, where the tree tells them, and how often a call has failed
pub record TreeTold : Type 0 where
  pub files : Option (List ℕ → Option (List ℕ))
  pub faults : ℕ

-- nothing but looks: the files are as they were, and no fault is forgotten
pub record OnlyLooks (before after : TreeTold) : Type 0 where
  pub files_stay : after.files ≡ before.files
  pub faults_never_fall : before.faults ≤ after.faults

-- a look failed
abbrev pub TreeFailed : TreeTold → TreeTold → Type 0
TreeFailed before after = Rose before.faults after.faults
