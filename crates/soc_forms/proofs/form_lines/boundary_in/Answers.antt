use Rattle.std.proofs.Common.{codes}
use Rattle.soc_multipart.proofs.Basics.{match_some, from_no}
use Rattle.soc_multipart.proofs.FindLemmas.{absent_among, found_among}
use Rattle.soc_forms.proofs.FormLemmas.{rest_is, unnamed_no_boundary, bad_no_boundary}
use Rattle.soc_forms.proofs.form_lines.boundary_in.Goals as goal

pub returns-in_default-find_param : goal.returns-in_default-find_param
returns-in_default-find_param c =
    unnamed_no_boundary c.args.value.now _ _ (rest_is _ _ _ c.media_len.ensures c.after-rest.ensures)
    (match_some _ _ _ _ c.in_ok-found.ensures c.in-Some.is)
    (absent_among (codes "boundary") _ _ c.as_slice.ensures.value c.in_default-find_param.ensures)

pub returns-then-not-is_boundary : goal.returns-then-not-is_boundary
returns-then-not-is_boundary c =
    bad_no_boundary c.args.value.now _ c.in-Some-find_param.boundary.now _ (rest_is _ _ _ c.media_len.ensures c.after-rest.ensures)
    (match_some _ _ _ _ c.in_ok-found.ensures c.in-Some.is)
    (found_among (codes "boundary") _ _ _ c.as_slice.ensures.value c.in-Some-find_param.ensures)
    (from_no _ c.is_boundary.ensures c.if-not-is_boundary.true)
