use Rattle.std.proofs.Common.{◌≡◌, ◌+◌, ◌<◌, ◌^◌, ℕ, sym, ap, ◌∙◌, arith}
use Rattle.soc_collect.proofs.Askings.{by_serving, some_append, stays_below}
use Rattle.soc_collect.proofs.collecting.collect.Goals as goal

-- the count of a collector is what its desk has added
counts_all : (before after added added' : ℕ) → before ≡ added → after + added ≡ before + added' → after ≡ added'
counts_all before after added added' is tallied = omega (arith, is, tallied)

short : (kept added : ℕ) → kept ≡ added → added < 2 ^ 60 → kept < 2 ^ 60
short kept added is small = omega (arith, is, small)

pub returns-in_default-clause-kept : goal.returns-in_default-clause-kept
returns-in_default-clause-kept g c = (c.loop.invariant.kept, short _ _ c.loop.invariant.kept c.loop.invariant.small)

pub returns-then-stopped-clause-asks : goal.returns-then-stopped-clause-asks
returns-then-stopped-clause-asks g c =
    some_append g.K.Desk.Asks _ _ _ c.loop.invariant.asks (by_serving g.K.Desk.Asks _ _ _ _ _ c.serve_one.ensures.serves.0 c.serve_one.ensures.serves.1)

pub returns-then-stopped-clause-kept : goal.returns-then-stopped-clause-kept
returns-then-stopped-clause-kept g c =
    let serves = c.serve_one.ensures.serves in
    let kept = counts_all _ _ _ _ c.loop.invariant.kept serves.2.kept in
    let one = by_serving g.K.Desk.Asks _ _ _ _ _ serves.0 serves.1 in
    let small = stays_below g.K.Desk.Asks g.K.KeepingDesk.added (2 ^ 60) g.met.K.KeepingDesk.added_grows _ _ c.loop.invariant.small one in
    (kept, short _ _ kept small)

pub loop-preserved : goal.loop-preserved
loop-preserved g c =
    let serves = c.serve_one.ensures.serves in
    let kept = counts_all _ _ _ _ c.loop.invariant.kept serves.2.kept in
    let one = by_serving g.K.Desk.Asks _ _ _ _ _ serves.0 serves.1 in
    record {
      ahead = (tt, tt);
      asks = some_append g.K.Desk.Asks _ _ _ c.loop.invariant.asks one;
      connections = serves.2.connections ∙ (ap (λ (n : ℕ). n + 1) c.loop.invariant.connections ∙ sym c.in-Some-accept.ensures.counts.0);
      kept = kept;
      small = stays_below g.K.Desk.Asks g.K.KeepingDesk.added (2 ^ 60) g.met.K.KeepingDesk.added_grows _ _ c.loop.invariant.small one;
      handed_parts = c.accept.ensures.parts.0 ∙ c.loop.invariant.handed_parts;
      refused_parts = c.accept.ensures.parts.1 ∙ c.loop.invariant.refused_parts;
    }
