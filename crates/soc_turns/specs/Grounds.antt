-- What a shared book keeps unchanged, as the desk's basis.
use Rattle.std.specs.Prelude.{ℕ, Bool, List, Option}
use Rattle.soc_raw.specs.Record.{Crash}
use Rattle.soc_schema.specs.declared.reporter.Reporter as reporter
use Rattle.soc_schema.specs.declared.value.Cell.{Cell}
use Rattle.soc_edge.specs.declared.disk.Disk as disk
use Rattle.soc_desk.specs.declared.desk.Limits.{Limits}
use Rattle.soc_desk.specs.Basis.{Basis}
use Rattle.soc_book.specs.declared.book.Book.{Book}
use Rattle.soc_book.specs.Books.{limits_of, reporter_of}
use Rattle.soc_turns.specs.declared.grounds.Grounds.{Grounds}

-- the basis of a book with this reporter and these limits, over a disk that tells its content or doesn't
abbrev pub desk_basis : (Crash → List Cell) → Option (List ℕ) → Limits → Bool → Basis
desk_basis row_of digest limits told =
    record { row_of = row_of; digest = digest; journal_bytes = limits.journal_bytes; crashes = limits.crashes; is_told = told }

-- the same of a book
abbrev pub basis_of : {D R : Type 0} {d : disk.Ghosts D} {r : reporter.Ghosts R} → Bool → Book D R d r → Basis
basis_of {r = r} told book = desk_basis (r.row_of (reporter_of book)) (r.digest_of (reporter_of book)) (limits_of book) told

-- the same by what no turn of a shared book changes
abbrev pub desk_by : {R D : Type 0} → (R → Crash → List Cell) → (R → Option (List ℕ)) → Bool → Grounds R D → Basis
desk_by row_of digest_of told grounds = desk_basis (row_of grounds.reporter) (digest_of grounds.reporter) grounds.limits told
