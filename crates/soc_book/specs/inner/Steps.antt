-- What the pieces of a book's commands leave of it.
use Rattle.std.specs.Prelude.{◌≡◌, IsTrue, List, [], ◌∷◌, ◌++◌, map, ℕ, Option, Some, Result}
use Rattle.soc_edge.specs.declared.disk.Disk as disk
use Rattle.soc_schema.specs.declared.reporter.Reporter as reporter
use Rattle.soc_journal.specs.Entries.{Entry}
use Rattle.soc_desk.specs.declared.desk.Command.{Command}
use Rattle.soc_desk.specs.declared.desk.Refusal.{Refusal}
use Rattle.soc_desk.specs.declared.desk.Reply.{Reply}
use Rattle.soc_desk.specs.Basis.{Basis, RowsTell}
use Rattle.soc_desk.specs.Log.{Change, Kept, IsLegal, keep}
use Rattle.soc_desk.specs.State.{State, settled, entries_of, entry_of}
use Rattle.soc_book.specs.declared.book.Book.{Book}
use Rattle.soc_book.specs.declared.book.Change.{Change as Pending}
use Rattle.soc_book.specs.Books.{ForEachState, StandsFor, disk_of}
use Rattle.soc_book.specs.inner.Does.{IsDecided}
use Rattle.soc_book.specs.inner.Keepings.{KeepsAll}
use Rattle.soc_book.specs.inner.Pieces.{AreAppended, Begins, IsWritten}
use Rattle.soc_book.specs.inner.Stands.{ArePending}

module _ {D R : Type 0} {d : disk.Ghosts D} {r : reporter.Ghosts R} where
  -- the book stands for a state that this leads to
  abbrev pub Becomes : Basis → Book D R d r → (State → Type 0) → Type 0
  Becomes basis after P = (later : State) × StandsFor basis after later × P later

  -- a doubt is settled, or why it isn't
  abbrev pub BeginsBook : {A : Type 0} → Book D R d r → Result A Refusal → Book D R d r → Type 0
  BeginsBook before result after =
      ForEachState before (λ basis state. Begins state (disk_of before) (disk_of after) result (StandsFor basis after))

  -- what a command comes to once the doubt is settled
  abbrev pub DecidesBook : Book D R d r → Command → Reply → Book D R d r → Type 0
  DecidesBook before command reply after = (basis : Basis) (log : List Change) → StandsFor basis before (settled log)
      → Becomes basis after (λ later. IsDecided basis log (disk_of before) command reply later (disk_of after))

  -- what the entries of changes that may follow a settled log lead to, once they are to be written behind it
  abbrev pub WritesBook : Book D R d r → Pending → List Entry → Result (Unit {0}) Refusal → Book D R d r → Type 0
  WritesBook before change entries result after = (basis : Basis) (log : List Change) (changes : List Kept) → StandsFor basis before (settled log)
      → ArePending basis log before.ledger (Some change) changes → IsLegal basis (log ++ map keep changes) → (IsTrue basis.is_told → entries ≡ entries_of changes)
      → Becomes basis after (λ later. AreAppended basis log (disk_of before) changes result later (disk_of after))

  -- the same of one change, with the reply
  abbrev pub WritesOne : Book D R d r → Pending → Entry → Reply → Reply → Book D R d r → Type 0
  WritesOne before pending entry written reply after = (basis : Basis) (log : List Change) (change : Kept) → StandsFor basis before (settled log)
      → ArePending basis log before.ledger (Some pending) (change ∷ []) → IsLegal basis (log ++ keep change ∷ []) → (IsTrue basis.is_told → entry ≡ entry_of change)
      → Becomes basis after (λ later. IsWritten basis log (disk_of before) change written reply later (disk_of after))

  -- what keeping the reports of a settled log leads to
  abbrev pub KeepsBook : Option (List ℕ) → Book D R d r → Result ℕ Refusal → Book D R d r → Type 0
  KeepsBook digest before result after = (basis : Basis) (log : List Change) → basis.digest ≡ digest → RowsTell basis
      → StandsFor basis before (settled log)
      → Becomes basis after (λ later. KeepsAll basis log (disk_of before) result later (disk_of after))
