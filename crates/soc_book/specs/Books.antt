-- What a book stands for, when it may be asked a command, and what it does then.
use Rattle.std.specs.Prelude.{◌≡◌, ℕ, Some, IsTrue, List, ⊤}
use Rattle.soc_schema.specs.declared.reporter.Reporter as reporter
use Rattle.soc_edge.specs.Disk.{DiskTold}
use Rattle.soc_edge.specs.declared.disk.Disk as disk
use Rattle.soc_ledger.specs.declared.event.Event.{Event}
use Rattle.soc_ledger.specs.Due.{is_due}
use Rattle.soc_desk.specs.declared.desk.Command.{Command}
use Rattle.soc_desk.specs.declared.desk.Command.TheVariants as C
use Rattle.soc_desk.specs.declared.desk.Limits.{Limits}
use Rattle.soc_desk.specs.declared.desk.Receipt.{Receipt}
use Rattle.soc_desk.specs.declared.desk.Reply.{Reply}
use Rattle.soc_desk.specs.Asks.{Asks}
use Rattle.soc_desk.specs.Basis.{Basis}
use Rattle.soc_desk.specs.Kinds.{NeedsNothing}
use Rattle.soc_desk.specs.Log.{events, raw_of}
use Rattle.soc_desk.specs.State.{State}
use Rattle.soc_book.specs.declared.book.Book.{Book}
use Rattle.soc_book.specs.inner.Does.{Does}
use Rattle.soc_book.specs.inner.Stands.{Stands}

-- ---- what a book holds

module _ {D R : Type 0} {d : disk.Ghosts D} {r : reporter.Ghosts R} where
  -- which disk was lent to it
  abbrev pub lent_to : Book D R d r → ℕ
  lent_to book = book.vault.disk.ghost_name

  -- that disk as it is now
  abbrev pub disk_in : Book D R d r → D
  disk_in book = book.vault.disk.now

  abbrev pub limits_of : Book D R d r → Limits
  limits_of book = book.limits

  abbrev pub reporter_of : Book D R d r → R
  reporter_of book = book.reporter.now

  -- the events of its log
  abbrev pub log_in : Book D R d r → List Event
  log_in book = book.ledger.log

  -- the same lent disk, limits and reporter
  pub record SameSetting (before after : Book D R d r) : Type 0 where
    pub same_disk : lent_to after ≡ lent_to before
    pub limits : limits_of after ≡ limits_of before
    pub reporter : reporter_of after ≡ reporter_of before

-- ---- what it stands for

module _ {D R : Type 0} {d : disk.Ghosts D} {r : reporter.Ghosts R} where
  -- what the lent disk tells now
  abbrev pub disk_of : Book D R d r → DiskTold
  disk_of book = d.state (disk_in book)

  -- the book stands for this state of the log
  abbrev pub StandsFor : Basis → Book D R d r → State → Type 0
  StandsFor basis book state =
      Stands basis book.limits book.ledger book.store book.doubt book.vault.journal (disk_of book) state

  -- this is so of each state that it stands for
  abbrev pub ForEachState : Book D R d r → (Basis → State → Type 0) → Type 0
  ForEachState book P = (basis : Basis) (state : State) → StandsFor basis book state → P basis state

  -- for each state that the book stood for, it stands for one that the command leads to
  abbrev pub Serves : Book D R d r → Command → Reply → Book D R d r → Type 0
  Serves before command reply after = ForEachState before (λ basis state.
      (later : State) × StandsFor basis after later × Does basis state (disk_of before) command reply later (disk_of after))

  -- the same of each state that this is so of
  abbrev pub ServesIf : (Basis → State → Type 0) → Book D R d r → Command → Reply → Book D R d r → Type 0
  ServesIf May before command reply after = (basis : Basis) (state : State) → May basis state → StandsFor basis before state
      → (later : State) × StandsFor basis after later × Does basis state (disk_of before) command reply later (disk_of after)

  -- the same over a basis that has the rows of the book's own reporter
  abbrev pub ServesByRows : Book D R d r → Command → Reply → Book D R d r → Type 0
  ServesByRows before = ServesIf (λ basis state. basis.row_of ≡ r.row_of (reporter_of before)) before

  -- the same of a receipt
  abbrev pub AsksBook : Book D R d r → Command → Receipt → Book D R d r → Type 0
  AsksBook before command receipt after = (basis : Basis) (state : State)
      → basis.row_of ≡ r.row_of (reporter_of before) → StandsFor basis before state
      → (later : State) × StandsFor basis after later × Asks basis state (disk_of before) command receipt later (disk_of after)

  -- A finished crash has the row that this reporter gives, and where the disk tells its content and the crash is due, it
  -- is the log's own.
  abbrev pub AllowsBook : Book D R d r → Command → Type 0
  AllowsBook book (C.Finish processed) = (processed.row ≡ r.row_of (reporter_of book) processed.crash)
      × ForEachState book (λ basis state. IsTrue basis.is_told → IsTrue (is_due (events basis state.log) processed.crash.id)
      → raw_of state.log processed.crash.id ≡ Some processed.crash)
  AllowsBook book _ = ⊤

  -- every other command may be asked at any time
  pub allows_others : (book : Book D R d r) (command : Command) → NeedsNothing command → AllowsBook book command
  allows_others book (C.Finish processed) never = absurd never
  allows_others book _ nothing = tt
