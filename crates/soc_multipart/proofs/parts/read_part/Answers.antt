use Rattle.std.proofs.Common.{inr, refl}
use Rattle.soc_multipart.proofs.Basics.{match_none}
use Rattle.soc_multipart.proofs.CutLemmas.{bad_piece}
use Rattle.soc_multipart.proofs.parts.read_part.Goals as goal

pub returns-in_default-2-clause-refused : goal.returns-in_default-2-clause-refused
returns-in_default-2-clause-refused c =
    inr (refl, bad_piece _ _ _ _ c.in-Some.ensures (match_none _ _ _ c.in_ok-part.ensures c.in_default-2.is))
