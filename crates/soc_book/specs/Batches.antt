-- What several commands come to.
use Rattle.std.specs.Prelude.{◌≡◌, List, flat_map}
use Rattle.soc_schema.specs.declared.reporter.Reporter as reporter
use Rattle.soc_edge.specs.declared.disk.Disk as disk
use Rattle.soc_desk.specs.declared.desk.Command.{Command}
use Rattle.soc_desk.specs.declared.desk.Receipt.{Receipt}
use Rattle.soc_desk.specs.Basis.{Basis}
use Rattle.soc_desk.specs.Batches.{AsksGroups, Group, commands_in, receipts_in}
use Rattle.soc_desk.specs.State.{State}
use Rattle.soc_book.specs.declared.book.Book.{Book}
use Rattle.soc_book.specs.Books.{StandsFor, disk_in, reporter_of}

-- For each state that the book stood for, it stands for one that the commands lead to, in groups that follow one another.
abbrev pub AsksAll : {D R : Type 0} {d : disk.Ghosts D} {r : reporter.Ghosts R} → Book D R d r → List Command → List Receipt → Book D R d r → Type 0
AsksAll {d = d} {r = r} before commands receipts after = (basis : Basis) (state : State) → basis.row_of ≡ r.row_of (reporter_of before) → StandsFor basis before state
    → (later : State) × StandsFor basis after later × (groups : List Group) × (flat_map commands_in groups ≡ commands) × (flat_map receipts_in groups ≡ receipts)
    × AsksGroups d.state basis state (disk_in before) groups later (disk_in after)
