use Rattle.std.proofs.Common.{◌≤◌, arith}
use Rattle.std.proofs.lemmas.Result.{err_from_is_err_and}
use Rattle.soc_http.proofs.BodyLemmas.{Past-more, Passes-failed}
use Rattle.soc_http.proofs.body.pass_over.Goals as goal

pub returns-in_err-count-clause-passes : goal.returns-in_err-count-clause-passes
returns-in_err-count-clause-passes g c =
    let p = err_from_is_err_and c.from_residual.result c.from_residual.ensures.1 in
    rw (p.1, p.2) (Passes-failed _ _ _ _ _ _ _ _ _ _ c.loop-left.invariant.0 c.in_err-count.ensures.ready (omega arith))

pub loop-left-preserved : goal.loop-left-preserved
loop-left-preserved g c =
    let within : c.in_ok-count.count ≤ c.loop-left.left = c.in_ok-count.ensures.ready.reads.2 in (
      Past-more _ _ _ _ _ _ _ _ _ _ _ c.loop-left.invariant.0 c.in_ok-count.ensures.ready c.consume.ensures (omega arith),
      omega arith,
    )
