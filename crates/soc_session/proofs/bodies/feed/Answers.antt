use Rattle.std.proofs.Common.{◌≡◌, ◌≤◌, ◌+◌, ◌-◌, length, arith}
use Rattle.std.proofs.lemmas.Result.{err_from_is_err_and}
use Rattle.soc_session.specs.inner.Intakes.{IsSaid}
use Rattle.soc_session.proofs.TakeLemmas.{IsFedSo-unrefused, feed-cut, feed-failed, feed-refused}
use Rattle.soc_session.proofs.bodies.feed.Goals as goal

pub returns-in_err-error-clause-takes : goal.returns-in_err-error-clause-takes
returns-in_err-error-clause-takes g c =
    let within : c.loop-left.left ≤ c.args.length = c.loop-left.invariant.1 in
    let total : c.args.length - c.loop-left.left + c.loop-left.left ≡ c.args.length = omega arith in
    let p = err_from_is_err_and c.from_residual.result c.from_residual.ensures.1 in
    rw (p.1, p.2)
    (feed-failed (IsSaid c.args.form.boundary) _ _ _ _ _ _ c.args.form.boundary c.loop-left.form c.feed_piece.new.form (c.args.length - c.loop-left.left) c.loop-left.left c.feed_piece.new.left
    c.args.length _ c.loop-left.invariant.0 c.in_err-error.ensures.feeds total)

pub returns-in_err-pass_over-clause-takes : goal.returns-in_err-pass_over-clause-takes
returns-in_err-pass_over-clause-takes g c =
    let within : c.loop-left.left ≤ c.args.length = c.loop-left.invariant.1 in
    let total : c.args.length - c.loop-left.left + c.loop-left.left ≡ c.args.length = omega arith in
    let feeds = rw c.in-Err.is at c.in_ok-error.ensures.feeds in
    let p = err_from_is_err_and c.from_residual-in_err-pass_over.result c.from_residual-in_err-pass_over.ensures.1 in
    rw (p.1, p.2)
    (feed-cut (IsSaid c.args.form.boundary) _ _ _ _ _ _ _ _ c.args.form.boundary c.loop-left.form c.feed_piece.new.form (c.args.length - c.loop-left.left) c.loop-left.left c.feed_piece.new.left
    c.args.length c.in-Err.error _ c.loop-left.invariant.0 feeds total c.in_err-pass_over.ensures.passes)

pub returns-in-Err-clause-takes : goal.returns-in-Err-clause-takes
returns-in-Err-clause-takes g c =
    let within : c.loop-left.left ≤ c.args.length = c.loop-left.invariant.1 in
    let total : c.args.length - c.loop-left.left + c.loop-left.left ≡ c.args.length = omega arith in
    let feeds = rw c.in-Err.is at c.in_ok-error.ensures.feeds in
    feed-refused _ _ _ _ _ _ _ _ c.args.form.boundary c.loop-left.form c.feed_piece.new.form (c.args.length - c.loop-left.left) c.loop-left.left c.feed_piece.new.left
    c.args.length c.in-Err.error c.in_ok-pass_over.field-0 c.loop-left.invariant.0 feeds total c.in_ok-pass_over.ensures.passes

pub loop-left-preserved : goal.loop-left-preserved
loop-left-preserved g c =
    let within : c.loop-left.left ≤ c.args.length = c.loop-left.invariant.1 in
    let counted : c.feed_piece.new.left + length c.in_ok-error.ensures.feeds.piece ≡ c.loop-left.left = c.in_ok-error.ensures.feeds.counted in
    let total : c.args.length - c.feed_piece.new.left + c.feed_piece.new.left ≡ c.args.length - c.loop-left.left + c.loop-left.left = omega arith in (
      IsFedSo-unrefused _ _ _ _ _ _ c.args.form.boundary c.loop-left.form c.feed_piece.new.form (c.args.length - c.loop-left.left) c.loop-left.left c.feed_piece.new.left
          (c.args.length - c.feed_piece.new.left) c.in_ok-error.field-0 c.loop-left.invariant.0 c.in_ok-error.ensures.feeds c.in_default.not-Err c.in_ok-error.ensures.keeps total,
      omega arith,
    )
