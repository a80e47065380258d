use Rattle.std.proofs.Common.{[], ◌∷◌, sym, subst}
use Rattle.std.specs.List.{AllByRecursion}
use Rattle.soc_desk.specs.Kinds.{NeedsNothing}
use Rattle.soc_ledger.proofs.Lists.{all-more}
use Rattle.soc_desk_tables.proofs.asks.commands.Goals as goal

pub loop-act-preserved : goal.loop-act-preserved
loop-act-preserved c = record {
  can_next = tt;
  is_finite = tt;
  needs = subst (AllByRecursion NeedsNothing) (sym c.in_ok-push.ensures.items) (all-more NeedsNothing c.loop-act.commands.items (c.new.result ∷ []) c.loop-act.invariant.needs (rw c.new.ensures (c.in_ok-command.ensures, tt)));
}
