use Rattle.std.proofs.Common.{◌≡◌}
use Rattle.soc_store.proofs.values.share_known.Given as goal

abbrev pub invariant-loop-i : goal.invariant-loop-i
invariant-loop-i l = l.row ≡ l.initial.row
