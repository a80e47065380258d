use Rattle.soc_multipart.proofs.Basics.{from_yes, from_no}
use Rattle.soc_multipart.proofs.HeadLemmas.{values_after_hit, values_after_miss}
use Rattle.soc_multipart.proofs.heads.values_named.Goals as goal
use Rattle.soc_multipart.proofs.heads.values_named.Goals.{then-eq_ignore_ascii_case, else-eq_ignore_ascii_case}

pub loop-line-preserved : goal.loop-line-preserved
loop-line-preserved c =
    elim c.if-eq_ignore_ascii_case.branch [
      | then-eq_ignore_ascii_case w ↦
          values_after_hit _ c.args.lines.now _ _ _ _ _ c.loop-line-test.true
          (from_yes _ c.eq_ignore_ascii_case.ensures.test w.if-eq_ignore_ascii_case.true) c.loop-line.invariant
          w.one_more-found.ensures w.found-is
      | else-eq_ignore_ascii_case w ↦
          values_after_miss _ c.args.lines.now _ _ _ _ c.loop-line-test.true
          (from_no _ c.eq_ignore_ascii_case.ensures.test w.if-eq_ignore_ascii_case.false) c.loop-line.invariant w.found-is
    ]
