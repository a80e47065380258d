use Rattle.std.proofs.Common.{◌≡◌, IsTrue, take}
use Rattle.std.specs.Prelude.{filter_map}
use Rattle.std.specs.List.{concat}
use Rattle.soc_edge.specs.Disk.{Looks}
use Rattle.soc_edge.specs.Told.{OnlyWrites, Writes}
use Rattle.soc_desk.specs.Basis.{Basis}
use Rattle.soc_desk.specs.State.{State}
use Rattle.soc_desk.specs.View.{view_of}
use Rattle.soc_book.specs.Books.{StandsFor, disk_of, lent_to}
use Rattle.soc_export.specs.inner.Telling.{line_in}
use Rattle.soc_export.proofs.rows.tell_rows.Given as goal

-- the disk was only looked at, the book stands for what it stood for, and the lines of the ids so far were written
abbrev pub invariant-loop-id : goal.invariant-loop-id
invariant-loop-id g l =
    record {
      same_disk : lent_to l.book ≡ lent_to l.fn.book;
      looks : Looks (disk_of l.fn.book) (disk_of l.book);
      only : OnlyWrites (g.K.Tells.told l.fn.output) (g.K.Tells.told l.output);
      tells : (basis : Basis) (state : State) → IsTrue basis.is_told → StandsFor basis l.fn.book state
          → StandsFor basis l.book state
          × Writes (g.K.Tells.told l.fn.output) (g.K.Tells.told l.output)
          (concat (filter_map (line_in (view_of basis state.log l.caller)) (take l.id-index l.id-items)));
    }
