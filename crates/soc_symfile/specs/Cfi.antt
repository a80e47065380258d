-- The call frame information of an offset: the INIT that covers it, and its deltas.
use Rattle.std.specs.Prelude.{ℕ, List, Option, option_map}
use Rattle.soc_symfile.specs.Line.{ExtentEntry, LabelEntry}
use Rattle.soc_symfile.specs.Records.{Records}
use Rattle.soc_symfile.specs.Found.{owner_at}

-- the rules of an INIT, and the address and rules of each of its deltas, in the order of the file
pub record Span : Type 0 where
  pub init : List ℕ
  pub deltas : List LabelEntry

abbrev pub span_in : ExtentEntry × List LabelEntry → Span
span_in owner = record { init = owner.0.text; deltas = owner.1 }

abbrev pub span_at : Records → ℕ → Option Span
span_at records offset = option_map span_in (owner_at records.inits offset)
