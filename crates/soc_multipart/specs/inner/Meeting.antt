-- A part at the front of what is left of a body.
use Rattle.std.specs.Prelude.{List, ℕ}
use Rattle.soc_multipart.specs.declared.delimiters.Ending.{Ending}
use Rattle.soc_multipart.specs.Delimiters.{MeetsFirst}
use Rattle.soc_multipart.specs.Parts.{PartText, IsPart}

-- the rest begins with this part, and the delimiter that follows it ends so
pub record MeetsPart (mark rest : List ℕ) (part : PartText) (end : Ending) : Type 0 where
  pub piece : List ℕ
  pub meets : MeetsFirst mark rest piece end
  pub is_part : IsPart piece part
