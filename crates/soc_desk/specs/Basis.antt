-- What no command of a run changes.
use Rattle.std.specs.Prelude.{ℕ, Bool, List, Option}
use Rattle.soc_raw.specs.Record.{Crash}
use Rattle.soc_schema.specs.declared.value.Cell.{Cell}
use Rattle.soc_schema.specs.Reports.{TellsCrash}

pub record Basis : Type 0 where
  -- the row that the reporter gives of a raw crash
  pub row_of : Crash → List Cell
  -- what names the reporter's lists and symbols, where it has such a name
  pub digest : Option (List ℕ)
  -- how many bytes the journal may have
  pub journal_bytes : ℕ
  -- how many crashes may be accepted
  pub crashes : ℕ
  -- whether the disk tells its content
  pub is_told : Bool

-- each row of the reporter tells its crash's id and product
abbrev pub RowsTell : Basis → Type 0
RowsTell basis = (crash : Crash) → TellsCrash crash (basis.row_of crash)
