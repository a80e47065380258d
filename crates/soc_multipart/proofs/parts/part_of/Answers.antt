use Rattle.soc_multipart.proofs.Basics.{match_none, match_some}
use Rattle.soc_multipart.proofs.PartLemmas.{no_content_no_part, no_head_no_part, holds_in_slice}
use Rattle.soc_multipart.proofs.parts.part_of.Goals as goal

pub returns-in_default : goal.returns-in_default
returns-in_default c = no_content_no_part _ (match_none _ _ _ (c.content_of.ensures _ c.in_ok-lines.ensures) c.in_default.is)

pub returns-in_default-2 : goal.returns-in_default-2
returns-in_default-2 c =
    no_head_no_part _ _ _
    (holds_in_slice _ _ _ _ c.as_slice.ensures.value
    (match_some _ _ _ _ (c.content_of.ensures _ c.in_ok-lines.ensures) c.in-Some.is))
    (match_none _ _ _ c.in_ok-head.ensures c.in_default-2.is)
