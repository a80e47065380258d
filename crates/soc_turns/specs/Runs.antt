-- What the turns at a shared book come to: one run of a desk. This project's profile.
use Rattle.std.specs.Prelude.{◌≡◌, ℕ, ◌≤◌, IsTrue, List, [], ◌∷◌}
use Rattle.soc_schema.specs.declared.reporter.Reporter as reporter
use Rattle.soc_edge.specs.Disk.{GoesOn}
use Rattle.soc_edge.specs.declared.disk.Disk as disk
use Rattle.soc_desk.specs.declared.desk.Command.{Command}
use Rattle.soc_desk.specs.declared.desk.Receipt.{Receipt}
use Rattle.soc_desk.specs.Basis.{Basis}
use Rattle.soc_desk.specs.Runs.{Answers, DeskAt}
use Rattle.soc_desk.specs.State.{Allowed}
use Rattle.soc_book.specs.declared.book.Book.{Book}
use Rattle.soc_book.specs.Books.{StandsFor, disk_of}

-- a run of the desk along these turns, each a command with its receipt
abbrev pub RunsTurns : (DeskAt → Command → Receipt → DeskAt → Type 0) → DeskAt → List (Command × Receipt) → DeskAt → Type 0
RunsTurns asks before [] after = after ≡ before
RunsTurns asks before (turn ∷ turns) after = (between : DeskAt) × asks before turn.0 turn.1 between × RunsTurns asks between turns after

module _ {D R : Type 0} {d : disk.Ghosts D} {r : reporter.Ghosts R} where
  -- the book is this desk's: since the desk's moment each stop leaves what its state allows
  pub record IsOver (basis : Basis) (book : Book D R d r) (desk : DeskAt) : Type 0 where
    pub stands : StandsFor basis book desk.state
    pub within : desk.moment ≤ (disk_of book).moment
    pub faults_are : desk.faults ≡ (disk_of book).faults
    pub holds : IsTrue basis.is_told → (image : List ℕ) → (disk_of book).since desk.moment image → Allowed desk.state image

  -- turns have led from the first desk to one of the book as it is now
  pub record HasRun (basis : Basis) (opened book : Book D R d r) (first : DeskAt) : Type 0 where
    pub goes_on : GoesOn (disk_of opened) (disk_of book)
    pub turns : List (Command × Receipt)
    pub last : DeskAt
    pub runs : RunsTurns (Answers basis (disk_of book).since) first turns last
    pub over : IsOver basis book last

  -- so they have from each desk of the book as it was
  abbrev pub RunsFrom : Basis → Book D R d r → Book D R d r → Type 0
  RunsFrom basis opened book = (first : DeskAt) → IsOver basis opened first → HasRun basis opened book first
