use Rattle.std.proofs.Common.{◌/◌, length, arith}
use Rattle.std.proofs.lemmas.Result.{IfOk-weaker}
use Rattle.soc_dump.proofs.CoveringLemmas.{owner_from-overlay}
use Rattle.soc_dump.proofs.pieces.+pieces_of.Goals as goal

pub returns-in_ok-lower-in_default-clause-owners : goal.returns-in_ok-lower-in_default-clause-owners
returns-in_ok-lower-in_default-clause-owners t c =
    let intervals = c.args.intervals.now in
    let overlaid = rw (c.as_slice.ensures.value, c.as_slice-in_default.ensures.value) at c.overlay.ensures in
    let front = rw c.split_at.ensures.front at c.in_ok-upper-in_default.ensures.owners in
    let back = rw c.split_at.ensures.back at c.in_ok-lower-in_default.ensures.owners in
    IfOk-weaker c.overlay.result _ _ (λ pieces overlay x small. owner_from-overlay c.args.index (length intervals / 2) x intervals
    c.in_ok-upper-in_default.upper.items c.in_ok-lower-in_default.lower.items pieces.items (omega arith) overlay (front x small) (back x small)) overlaid
