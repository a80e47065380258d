use Rattle.soc_multipart.proofs.Basics.{match_bool_yes, match_none, match_some}
use Rattle.soc_multipart.proofs.BadHeadLemmas.{bad_lines_so, good_lines_so, open_lines_so}
use Rattle.soc_multipart.proofs.PartLemmas.{end_in_slice, ends_content, ends_open}
use Rattle.soc_multipart.proofs.sections.judge_lines.Goals as goal

pub returns-in_default : goal.returns-in_default
returns-in_default c = λ front e.
    bad_lines_so _ front _ _ (ends_content _ _ _ _ c.in-Content.is (end_in_slice _ _ _ _ c.as_slice.ensures.value c.in_ok-lines.ensures))
    (match_none _ _ _ c.in_ok-head-in-Content.ensures c.in_default.is) e

pub returns-in-Content : goal.returns-in-Content
returns-in-Content c = λ front e.
    good_lines_so _ _ _ _ _ (ends_content _ _ _ _ c.in-Content.is (end_in_slice _ _ _ _ c.as_slice.ensures.value c.in_ok-lines.ensures))
    (match_some _ _ _ _ c.in_ok-head-in-Content.ensures c.in-Some.is) c.in_ok-content-in-Content.ensures.items

pub returns-then-has_line_end : goal.returns-then-has_line_end
returns-then-has_line_end c = λ front e.
    open_lines_so _ front _ _ (ends_open _ _ _ _ c.in-Open.is c.in_ok-lines.ensures) c.requires
    (match_bool_yes _ _ _ c.has_line_end.ensures c.if-has_line_end.true) e
