use Rattle.std.proofs.Common.{◌≡◌, drop, map}
use Rattle.soc_store.specs.Stored.{product_at, tally}
use Rattle.soc_store.proofs.counts.counts_at.Given as goal

abbrev pub invariant-loop-i : goal.invariant-loop-i
invariant-loop-i l = l.counts.items ≡ tally (drop l.i (map (product_at l.rows) l.places))
