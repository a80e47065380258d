use Rattle.std.proofs.Common.{[], ◌∷◌, sym, subst}
use Rattle.std.specs.List.{AllByRecursion}
use Rattle.soc_desk.specs.Kinds.{NeedsNothing}
use Rattle.soc_ledger.proofs.Lists.{all-more}
use Rattle.soc_bench.proofs.together.submissions.Goals as goal

pub loop-number-preserved : goal.loop-number-preserved
loop-number-preserved c =
    subst (AllByRecursion NeedsNothing) (sym c.in_ok-push.ensures.items) (all-more NeedsNothing c.loop-number.commands.items (c.new.result ∷ []) c.loop-number.invariant (rw c.new.ensures (tt, tt)))
