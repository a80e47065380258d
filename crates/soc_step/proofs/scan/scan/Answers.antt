use Rattle.std.proofs.Common.{◌≡◌, ◌+◌, ◌-◌, ◌<◌, None, refl, sym, ◌∙◌, ap, arith}
use Rattle.soc_step.specs.Step.{scan}
use Rattle.soc_step.proofs.ScanLemmas.{scan-unread, scan-at_end, scan-taken, scan-on, scan-done}
use Rattle.soc_step.proofs.scan.scan.Goals as goal

pub returns-in_err-word : goal.returns-in_err-word
returns-in_err-word g c =
    c.from_residual.ensures ∙ sym (c.loop.invariant ∙ scan-unread _ _ _ _ _ c.bytes.ensures.value c.in_err-word.ensures.value)

pub returns-in_err-next : goal.returns-in_err-next
returns-in_err-next g c =
    c.from_residual-in_err-next.ensures ∙ sym (c.loop.invariant ∙ scan-at_end _ _ _ _ _ _ c.bytes.ensures.value c.in_ok-word.ensures.value c.in_err-next.ensures)

pub returns-then-takes : goal.returns-then-takes
returns-then-takes g c =
    sym (c.loop.invariant ∙ scan-taken _ _ _ _ _ _ _ (omega arith) c.bytes.ensures.value c.in_ok-word.ensures.value c.in_ok-next.ensures c.if-takes.ensures)

pub loop-preserved : goal.loop-preserved
loop-preserved g c =
    c.loop.invariant ∙ scan-on _ _ _ _ _ _ _ _ (omega arith) c.bytes.ensures.value c.in_ok-word.ensures.value c.in_ok-next.ensures c.if-takes.ensures

pub returns : goal.returns
returns g c = sym (c.loop.invariant ∙ scan-done _ _ _ _ (omega arith))
