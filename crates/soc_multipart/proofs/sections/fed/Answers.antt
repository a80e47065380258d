use Rattle.std.proofs.Common.{[], ◌++◌, refl}
use Rattle.std.proofs.lemmas.Result.{err_from_is_err_and}
use Rattle.soc_multipart.proofs.Basics.{zero_from_test}
use Rattle.soc_multipart.proofs.SectionLemmas.{fed_all, fed_more, fed_none, fed_refusal, fed_state}
use Rattle.soc_multipart.proofs.sections.fed.Goals as goal

pub loop-left-init : goal.loop-left-init
loop-left-init c = ([], refl, λ fed h. fed_none c.args.boundary.now fed c.args.state h)

pub loop-left-preserved : goal.loop-left-preserved
loop-left-preserved c = (
  c.loop-left.invariant.0 ++ c.split_line-split.result.front.now,
  fed_more c.args.boundary.now c.args.piece.now c.loop-left.invariant.0 c.loop-left.left.now c.split_line-split.result.front.now c.split_line-split.result.rest.now
      c.loop-left.invariant.1 c.split_line-split.ensures.whole,
  λ fed h.
      fed_state c.args.boundary.now fed c.loop-left.invariant.0 c.split_line-split.result.front.now c.in_ok-new.new
      (c.in_ok-new.ensures.found (fed ++ c.loop-left.invariant.0) (c.loop-left.invariant.2 fed h)),
)

pub returns-clause-found : goal.returns-clause-found
returns-clause-found c = λ fed h.
    fed_all c.args.boundary.now fed c.args.piece.now c.loop-left.invariant.0 c.loop-left.left.now c.loop-left.new c.loop-left.invariant.1
    (zero_from_test _ _ c.is_empty.ensures c.loop-left-test.false) (c.loop-left.invariant.2 fed h)

pub returns-in_err-new-clause-refused : goal.returns-in_err-new-clause-refused
returns-in_err-new-clause-refused c = λ fed h.
    let p = err_from_is_err_and c.from_residual.result c.from_residual.ensures.1 in
    rw (p.1, p.2)
    (fed_refusal c.args.boundary.now fed c.args.piece.now c.loop-left.invariant.0 c.loop-left.left.now c.split_line-split.result.front.now c.split_line-split.result.rest.now
    c.in_err-new.field-0.0 c.loop-left.invariant.1 c.split_line-split.ensures.whole
    (c.in_err-new.ensures.refused (fed ++ c.loop-left.invariant.0) (c.loop-left.invariant.2 fed h)))
