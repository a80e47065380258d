use Rattle.std.proofs.Common.{arith, refl, sym, []}
use Rattle.soc_edge.proofs.Told.{Takes-none, NeverFall-append}
use Rattle.soc_session.specs.Desk.{ways}
use Rattle.soc_session.specs.declared.ending.SessionEnd.TheVariants.{NoMemory, TooLong}
use Rattle.soc_session.proofs.ConnectionLemmas.{Serves-cons, Serves-nothing, Serves-of, no-response, some}
use Rattle.soc_session.proofs.connection.session.Goals as goal

pub returns-then-left-eq0-clause-serves : goal.returns-then-left-eq0-clause-serves
returns-then-left-eq0-clause-serves g c =
    Serves-of g.K.Desk.Asks (ways c.args.setting.now.rules.now (g.S.Stacks.stack_of c.args.setting.now.stacks.now)) _ _ _ TooLong
    (Serves-nothing g.K.Desk.Asks (ways c.args.setting.now.rules.now (g.S.Stacks.stack_of c.args.setting.now.stacks.now)) [] c.args.buffer.now _ _ TooLong (sym c.requires) (Takes-none _ _ refl) (no-response _ _ (omega (arith, c.if-left-eq0.true))))

pub returns-in_default-clause-serves : goal.returns-in_default-clause-serves
returns-in_default-clause-serves g c =
    Serves-of g.K.Desk.Asks (ways c.args.setting.now.rules.now (g.S.Stacks.stack_of c.args.setting.now.stacks.now)) _ _ _ NoMemory
    (Serves-nothing g.K.Desk.Asks (ways c.args.setting.now.rules.now (g.S.Stacks.stack_of c.args.setting.now.stacks.now)) [] c.args.buffer.now _ _ NoMemory tt (Takes-none _ _ refl) (no-response _ _ (some _ c.if-left-eq0.false)))

pub loop-left-preserved : goal.loop-left-preserved
loop-left-preserved g c = (
  λ after held end rest.
      c.loop-left.invariant.0 after held end
      (Serves-cons g.K.Desk.Asks (ways c.args.setting.now.rules.now (g.S.Stacks.stack_of c.args.setting.now.stacks.now)) c.loop-left.buffer c.answer_next.new.buffer held c.loop-left.left c.in-GoesOn.bytes
      c.saturating_sub-left.result _ _ after end c.loop-left-test.true c.in-GoesOn.ensures.steps c.saturating_sub-left.ensures rest),
  c.in-GoesOn.ensures.spare,
  NeverFall-append _ _ _ c.loop-left.invariant.2 c.in-GoesOn.ensures.never_fall,
)

pub returns-in-Ends-clause-serves : goal.returns-in-Ends-clause-serves
returns-in-Ends-clause-serves g c =
    Serves-of g.K.Desk.Asks (ways c.args.setting.now.rules.now (g.S.Stacks.stack_of c.args.setting.now.stacks.now)) _ _ _ c.in-Ends.end
    (c.loop-left.invariant.0 _ _ c.in-Ends.end (c.in-Ends.ensures.steps c.loop-left.left c.loop-left-test.true))

pub returns-clause-serves : goal.returns-clause-serves
returns-clause-serves g c =
    Serves-of g.K.Desk.Asks (ways c.args.setting.now.rules.now (g.S.Stacks.stack_of c.args.setting.now.stacks.now)) _ _ _ TooLong
    (c.loop-left.invariant.0 _ _ TooLong (Serves-nothing g.K.Desk.Asks (ways c.args.setting.now.rules.now (g.S.Stacks.stack_of c.args.setting.now.stacks.now)) _ _ _ _ TooLong refl (Takes-none _ _ refl) (no-response _ _ (omega arith))))
