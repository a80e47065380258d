use Rattle.std.proofs.Common.{◌+◌, ◌-◌, ◌≡◌, None, sym, arith}
use Rattle.soc_dump.proofs.CoveringLemmas.{owner_from-none, owner_from-some, rising-sorted}
use Rattle.soc_dump.proofs.pieces.owner_at.Goals as goal

pub returns-then-count-eq0 : goal.returns-then-count-eq0
returns-then-count-eq0 c =
    let point = c.count_to-count.ensures.point (rising-sorted c.args.pieces.now 0 c.requires) in
    sym (owner_from-none None c.args.pieces.now c.args.x (rw c.if-count-eq0.true at point))

pub returns : goal.returns
returns c =
    let count = c.count_to-count.result in
    let more : count ≡ (count - 1) + 1 = omega (arith, c.if-count-eq0.false) in
    let point = c.count_to-count.ensures.point (rising-sorted c.args.pieces.now 0 c.requires) in
    sym (owner_from-some None c.args.pieces.now c.args.x (count - 1) _ (omega (arith, more, c.count_to-count.ensures.bound)) (rw more at point))
