use Rattle.std.proofs.Common.{ap, sym, ◌∙◌, Some}
use Rattle.soc_multipart.proofs.Basics.{from_yes, from_no}
use Rattle.soc_multipart.proofs.FindLemmas.{find_hit, find_miss}
use Rattle.soc_multipart.proofs.params.find_param.Goals as goal

pub returns-then-eq_ignore_ascii_case : goal.returns-then-eq_ignore_ascii_case
returns-then-eq_ignore_ascii_case c =
    find_hit _ _ _ c.param-item.result _ c.loop-param-test.true c.param-item.is c.loop-param.invariant
    (from_yes _ c.eq_ignore_ascii_case.ensures.test c.if-eq_ignore_ascii_case.true)
    ∙ ap Some (sym c.as_slice.ensures.value)

pub loop-param-preserved : goal.loop-param-preserved
loop-param-preserved c =
    find_miss _ _ _ c.param-item.result _ c.loop-param-test.true c.param-item.is c.loop-param.invariant
    (from_no _ c.eq_ignore_ascii_case.ensures.test c.if-eq_ignore_ascii_case.false)
