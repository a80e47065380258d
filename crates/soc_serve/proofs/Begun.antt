-- The run that the turns at a shared book come to, from the journal that was opened.
use Rattle.std.proofs.Common.{◌≡◌, inl, inr, ℕ, Bool, true, false, IsTrue, List, [], ◌++◌, map, Option, None, Some, IfSome, refl, sym, ap, ◌∙◌, subst, arith}
use Rattle.std.specs.Prelude.{is_some}
use Rattle.soc_schema.specs.declared.reporter.Reporter as reporter
use Rattle.soc_edge.specs.Disk.{DiskTold}
use Rattle.soc_edge.specs.declared.disk.Disk as disk
use Rattle.soc_journal.specs.Entries.{Entry, header}
use Rattle.soc_journal.specs.Text.{JournalText, version_of}
use Rattle.soc_ledger.proofs.Lists.{true_is_not_false}
use Rattle.soc_vault.specs.Openings.{AreEntriesOf, StandsSince}
use Rattle.soc_hall.specs.Asked.{Closes}
use Rattle.soc_desk.specs.declared.desk.Command.{Command}
use Rattle.soc_desk.specs.declared.desk.Limits.{Limits}
use Rattle.soc_desk.specs.Basis.{Basis}
use Rattle.soc_desk.specs.Log.{Change, Kept}
use Rattle.soc_desk.specs.Opens.{OpensWith, as_told, log_of}
use Rattle.soc_desk.specs.Runs.{DeskAt}
use Rattle.soc_desk.specs.State.{Allowed, entries_of, kept_of, settled}
use Rattle.soc_book.specs.declared.book.Book.{Book}
use Rattle.soc_book.specs.Books.{StandsFor, disk_of, limits_of, log_in, reporter_of}
use Rattle.soc_book.specs.Openings.{IsBasisOf, OpensBook}
use Rattle.soc_book.proofs.Kept.{kept_of-log, told_all}
use Rattle.soc_service.specs.declared.change.Change.{Change as Turned}
use Rattle.soc_service.specs.Turns.{Knows}
use Rattle.soc_crew.specs.Gains.{Gains}
use Rattle.soc_turns.specs.Changes.{changes_at}
use Rattle.soc_turns.specs.Grounds.{basis_of, desk_basis}
use Rattle.soc_turns.specs.Runs.{HasRun, IsOver, RunsFrom}
use Rattle.soc_turns.proofs.Sharing.{same_basis}
use Rattle.soc_serve.specs.Hosts.{IsRight}
use Rattle.soc_serve.proofs.Stops.{map_none}

allowed_by : (b : Bool) (kept : List Kept) (entries : List Entry) (image : List ℕ) → IsTrue b → entries ≡ entries_of kept → JournalText entries image
    → Allowed (settled (log_of (map (as_told b) kept))) image
allowed_by false kept entries image never are text = absurd (true_is_not_false (sym never))
allowed_by true kept entries image is are text =
    let all : kept_of (log_of (map (as_told true) kept)) ≡ kept = kept_of-log (map (as_told true) kept) ∙ told_all kept in
    inl (subst (λ (es : List Entry). JournalText es image) (are ∙ sym (ap entries_of all)) text)

-- an image of the entries that were opened is allowed at first
opened_allows : (basis : Basis) (entries : List Entry) (log : List Change) → OpensWith basis entries log → IsTrue basis.is_told → (image : List ℕ) → JournalText entries image
    → Allowed (settled log) image
opened_allows basis entries log opens told image text =
    subst (λ (l : List Change). Allowed (settled l) image) (sym opens.log_is) (allowed_by basis.is_told opens.kept entries image told opens.are.entries_are text)

-- ---- the desk with which the run begins

module _ {D R : Type 0} {d : disk.Ghosts D} {r : reporter.Ghosts R} (basis : Basis) (before : DiskTold) (book : Book D R d r) (opened : OpensBook basis before (disk_of book) (StandsFor basis book)) where
  abbrev Stood : Option (List ℕ) → Type 0
  Stood content = IfSome content (λ bytes. StandsSince before (disk_of book) bytes opened.entries)

  -- the moment at which the journal stood, and where the disk tells nothing that at which it was open
  abbrev moment_of : (content : Option (List ℕ)) → Stood content → ℕ
  moment_of None stands = (disk_of book).moment
  moment_of (Some bytes) stands = stands.moment

  abbrev pub begun_at : (content : Option (List ℕ)) → Stood content → DeskAt
  begun_at content stands = record { state = settled opened.log; moment = moment_of content stands; faults = (disk_of book).faults }

  over_begun : (content : Option (List ℕ)) (stands : Stood content) → (IsTrue basis.is_told → IsTrue (is_some content)) → IsOver basis book (begun_at content stands)
  over_begun None stands tells =
      record { stands = opened.now; within = omega arith; faults_are = refl; holds = λ is image left. absurd (true_is_not_false (sym (tells is))) }
  over_begun (Some bytes) stands tells = record {
    stands = opened.now;
    within = stands.ends;
    faults_are = refl;
    holds = λ is image left. opened_allows basis opened.entries opened.log opened.opens is image (stands.each image left);
  }

-- ---- the run

module _ {D R : Type 0} {d : disk.Ghosts D} {r : reporter.Ghosts R} (told : Bool) where
  -- what threads see of a book's log
  abbrev pub log_by : Book D R d r → List Turned
  log_by book = changes_at told (disk_of book).content (log_in book)

  -- turns have led from the one book to the other
  pub record HasTurned (first second : Book D R d r) (kept : ℕ) : Type 0 where
    pub runs : RunsFrom (basis_of told second) first second
    pub gains : Gains (log_by first) (log_by second) kept
    pub same_reporter : reporter_of second ≡ reporter_of first
    pub same_limits : limits_of second ≡ limits_of first
    pub seats : List (Knows Command Basis)
    pub closes : Closes IsRight (log_by second) (basis_of told second) seats
    pub opened : closes.opening ≡ log_by first

module _ {D R : Type 0} {d : disk.Ghosts D} {r : reporter.Ghosts R} (told : Bool) (before : DiskTold) (steady : is_some before.content ≡ told) (by : R) (limits : Limits)
    (first second : Book D R d r) (reporter_is : reporter_of first ≡ by) (limits_are : limits_of first ≡ limits)
    (opens : (basis : Basis) → IsBasisOf (r.row_of by) (r.digest_of by) limits before.content basis → OpensBook basis before (disk_of first) (StandsFor basis first)) where
  abbrev pub basis : Basis
  basis = desk_basis (r.row_of by) (r.digest_of by) limits told

  pub is_basis : IsBasisOf (r.row_of by) (r.digest_of by) limits before.content basis
  is_basis = record { rows = refl; digest_is = refl; bytes = refl; crashes_are = refl; tells = λ is. steady ∙ is }

  abbrev pub opened : OpensBook basis before (disk_of first) (StandsFor basis first)
  opened = opens basis is_basis

  abbrev pub begun : DeskAt
  begun = begun_at basis before first opened before.content opened.stands

  module _ (kept : ℕ) (turned : HasTurned told first second kept) where
    basis_stays : basis_of told second ≡ basis
    basis_stays = sym (same_basis r.row_of r.digest_of told (turned.same_reporter ∙ reporter_is) (turned.same_limits ∙ limits_are))

    pub run_of : HasRun basis first second begun
    run_of =
        subst (λ (b : Basis). RunsFrom b first second) basis_stays turned.runs
        begun (over_begun basis before first opened before.content opened.stands (λ is. steady ∙ is))

    pub seated_of : (log log' : List Turned) → log_by told first ≡ log → log_by told second ≡ log'
        → (closes : Closes IsRight log' basis turned.seats) × (closes.opening ≡ log)
    seated_of log log' was is =
        subst (λ (l : List Turned). (closes : Closes IsRight l basis turned.seats) × (closes.opening ≡ log)) is
        (subst (λ (b : Basis). (closes : Closes IsRight (log_by told second) b turned.seats) × (closes.opening ≡ log)) basis_stays (turned.closes, turned.opened ∙ was))

-- ---- an empty disk

no_header : (version : ℕ) (rest : List ℕ) → [] ≡ header version ++ rest → ⊥
no_header version rest is = cc

no_entries : (entries : List Entry) → AreEntriesOf [] entries → entries ≡ []
no_entries entries (inl none) = none.1
no_entries entries (inr text) = absurd (no_header (version_of []) _ text.begins.whole)

pub nothing_opened : (basis : Basis) (entries : List Entry) (log : List Change) → OpensWith basis entries log → AreEntriesOf [] entries → log ≡ []
nothing_opened basis entries log opens found =
    opens.log_is ∙ ap (λ (k : List Kept). log_of (map (as_told basis.is_told) k)) (map_none _ opens.kept (sym opens.are.entries_are ∙ no_entries entries found))
