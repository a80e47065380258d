use Rattle.std.proofs.Common.{◌≡◌, ◌<◌, ◌≤◌, ◌-◌, ℕ, length, map}
use Rattle.std.specs.Prelude.{slice_index}
use Rattle.std.specs.declared.cmp.Ordering.TheVariants.{Less, Greater}
use Rattle.soc_base.specs.Names.{byte_cmp}
use Rattle.soc_ledger.specs.inner.Tables.{id_at}
use Rattle.soc_ledger.proofs.crashes.place_of.Given as goal

abbrev pub invariant-loop-low : goal.invariant-loop-low
invariant-loop-low l =
    (l.low ≤ l.high) × (l.high ≤ length l.numbers)
    × ((k : ℕ) → k < l.low → byte_cmp (id_at (map (λ crash. crash.filed.id) l.crashes) (slice_index l.numbers k)) l.id ≡ Less)
    × ((k : ℕ) → l.high ≤ k → k < length l.numbers → byte_cmp (id_at (map (λ crash. crash.filed.id) l.crashes) (slice_index l.numbers k)) l.id ≡ Greater)

abbrev pub decreases-loop-low : goal.decreases-loop-low
decreases-loop-low l = l.high - l.low
