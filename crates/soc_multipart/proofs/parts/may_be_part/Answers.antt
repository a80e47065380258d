use Rattle.soc_multipart.proofs.Basics.{match_bool_yes, match_bool_no}
use Rattle.soc_multipart.proofs.PartLemmas.{end_in_slice, ends_content, ends_open, may_content, ended_open, may_open, may_in_slice, never}
use Rattle.soc_multipart.proofs.parts.may_be_part.Goals as goal

pub returns-in-Content : goal.returns-in-Content
returns-in-Content c =
    may_content _ _ _ c.in_ok-head-in-Content.head c.is_some.result (λ x. x.name) (λ x. x.file) (λ x. x.kind)
    (ends_content _ _ _ _ c.in-Content.is (end_in_slice _ _ _ _ c.as_slice.ensures.value c.in_ok-lines.ensures))
    c.in_ok-head-in-Content.ensures c.is_some.ensures

pub returns-then-has_line_end : goal.returns-then-has_line_end
returns-then-has_line_end c =
    never
    (ended_open _ _ _ (ends_open _ _ _ _ c.in-Open.is c.in_ok-lines.ensures)
    (match_bool_yes _ _ _ c.has_line_end.ensures c.if-has_line_end.true))

pub returns : goal.returns
returns c =
    may_open _ _ _ _ (ends_open _ _ _ _ c.in-Open.is c.in_ok-lines.ensures)
    (match_bool_no _ _ _ c.has_line_end.ensures c.if-has_line_end.false) c.if-piece-ge-HEAD_LIMIT.false
    (may_in_slice _ _ _ c.as_slice-in-Open.ensures.value c.in_ok-may-in-Open.ensures)
