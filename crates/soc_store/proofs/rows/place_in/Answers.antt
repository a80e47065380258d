use Rattle.std.proofs.Common.{◌+◌, ◌-◌, ◌/◌, ◌≡◌, length, arith}
use Rattle.soc_store.specs.Stored.{rows_in}
use Rattle.soc_store.proofs.StoreLemmas.{less_entries, greater_entries, entry_count}
use Rattle.soc_store.proofs.rows.place_in.Goals as goal

pub loop-low-preserved-then-there-place : goal.loop-low-preserved-then-there-place
loop-low-preserved-then-there-place c =
    (omega arith, omega arith, less_entries (λ e. e.place) (λ e. e.row.value) c.args.entries.now c.args.place (c.loop-low.low + (c.loop-low.high - c.loop-low.low) / 2) c.index-entries-middle.result c.requires (omega arith) c.index-entries-middle.is (omega arith), c.loop-low.invariant.3)

pub loop-low-preserved : goal.loop-low-preserved
loop-low-preserved c =
    (omega arith, omega arith, c.loop-low.invariant.2, greater_entries (λ e. e.place) (λ e. e.row.value) c.args.entries.now c.args.place (c.loop-low.low + (c.loop-low.high - c.loop-low.low) / 2) c.index-entries-middle.result c.requires (omega arith) c.index-entries-middle.is (omega arith))

pub returns : goal.returns
returns c =
    let low : c.loop-low.low ≡ c.loop-low.high = omega arith in
    let count : length (rows_in (λ e. e.place) (λ e. e.row.value) c.args.entries.now) ≡ length c.args.entries.now = entry_count (λ e. e.place) (λ e. e.row.value) c.args.entries.now in
    (omega arith, (c.loop-low.invariant.2, (λ k d h h'. c.loop-low.invariant.3 k d (omega arith) h')))
