use Rattle.soc_multipart.proofs.Basics.{match_weaker}
use Rattle.soc_multipart.proofs.DelimiterLemmas.{no_opening, opening_by_parts}
use Rattle.soc_multipart.proofs.delimiters.strip_opening.Goals as goal

pub returns : goal.returns
returns c =
    match_weaker _ _ _ _ _ c.strip_front.ensures (no_opening _ _ _ c.split_blanks.ensures)
    (λ x. opening_by_parts _ _ _ _ c.split_blanks.ensures)
