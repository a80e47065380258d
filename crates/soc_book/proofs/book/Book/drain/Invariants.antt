use Rattle.std.proofs.Common.{◌≡◌}
use Rattle.soc_book.proofs.Words.{Looks, Basis, State, SameSetting, StandsFor, disk_of, reporter_of, Becomes, IsTurned}
use Rattle.soc_book.proofs.book.Book.drain.Given as goal

-- the setting stays, the disk was only looked at, and the book stands for the log with these turns
abbrev pub invariant-loop-turns : goal.invariant-loop-turns
invariant-loop-turns g l =
    record {
      setting : SameSetting l.fn.self l.self;
      looks : Looks (disk_of l.fn.self) (disk_of l.self);
      turned : (basis : Basis) (state : State) → basis.row_of ≡ g.R.Reporter.row_of (reporter_of l.fn.self) → StandsFor basis l.fn.self state
          → Becomes basis l.self (IsTurned basis state l.turns);
    }
