-- What keeping a run's reports does: always what its reply, its log and the disk's calls tell, and where the disk tells its
-- content a step that outlives stops.
use Rattle.std.specs.Prelude.{◌≡◌, IsTrue, List, ℕ, ◌++◌}
use Rattle.soc_edge.specs.declared.disk.Disk as disk
use Rattle.soc_schema.specs.declared.reporter.Reporter as reporter
use Rattle.soc_edge.specs.Disk.{DiskTold, GoesOn, DiskFailed, LeavesOnly}
use Rattle.soc_desk.specs.declared.desk.Reply.{Reply}
use Rattle.soc_desk.specs.Asks.{IsStoreFault}
use Rattle.soc_desk.specs.Basis.{Basis}
use Rattle.soc_desk.specs.Keeps.{KeepAllows, KeepGrows, StepKeep}
use Rattle.soc_desk.specs.Log.{Change, events}
use Rattle.soc_desk.specs.State.{State, doubted, IsLegalState, Allowed}
use Rattle.soc_book.specs.declared.book.Book.{Book}
use Rattle.soc_book.specs.Books.{StandsFor, disk_of, reporter_of}

pub record KeepsReports (basis : Basis) (before : State) (disk : DiskTold) (reply : Reply) (after : State) (disk' : DiskTold) : Type 0 where
  -- whatever the disk tells
  pub piece : List Change
  pub behind : after.log ≡ before.log ++ piece
  pub grows : KeepGrows basis reply (events basis before.log) (doubted basis before) (events basis piece) (doubted basis after)
  pub legal : IsLegalState basis after
  pub goes_on : GoesOn disk disk'
  pub fault : IsStoreFault reply → DiskFailed disk disk'
  -- where it tells its content
  pub step : IsTrue basis.is_told → StepKeep basis before reply after
  pub survives : IsTrue basis.is_told → LeavesOnly disk disk' (KeepAllows before after)
  pub allowed : IsTrue basis.is_told → (image : List ℕ) → disk'.images image → Allowed after image

-- over a basis of the book's own reporter
abbrev pub KeepsByReporter : {D R : Type 0} {d : disk.Ghosts D} {r : reporter.Ghosts R} → Book D R d r → Reply → Book D R d r → Type 0
KeepsByReporter {r = r} before reply after = (basis : Basis) (state : State) → basis.row_of ≡ r.row_of (reporter_of before)
    → basis.digest ≡ r.digest_of (reporter_of before) → StandsFor basis before state
    → (later : State) × StandsFor basis after later × KeepsReports basis state (disk_of before) reply later (disk_of after)
