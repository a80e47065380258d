use Rattle.std.proofs.Common.{◌≡◌, ◌-◌, ◌≤◌, ℕ, List, length}
use Rattle.std.specs.declared.cmp.Ordering.TheVariants.{Less, Greater}
use Rattle.std.specs.List.{AllWithin}
use Rattle.std.specs.Ordering.{nat_cmp}
use Rattle.soc_schema.specs.declared.value.Cell.{Cell}
use Rattle.soc_store.specs.Stored.{rows_in}
use Rattle.soc_store.proofs.rows.place_in.Given as goal

abbrev pub invariant-loop-low : goal.invariant-loop-low
invariant-loop-low l =
    (l.low ≤ l.high) × (l.high ≤ length l.entries)
    × AllWithin (λ (s : ℕ × List Cell). nat_cmp s.0 l.place ≡ Less) (rows_in (λ e. e.place) (λ e. e.row.value) l.entries) 0 l.low
    × AllWithin (λ (s : ℕ × List Cell). nat_cmp s.0 l.place ≡ Greater) (rows_in (λ e. e.place) (λ e. e.row.value) l.entries) l.high (length (rows_in (λ e. e.place) (λ e. e.row.value) l.entries))

abbrev pub decreases-loop-low : goal.decreases-loop-low
decreases-loop-low l = l.high - l.low
