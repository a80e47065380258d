use Rattle.std.proofs.Common.{arith}
use Rattle.soc_symfile.proofs.PlaceLemmas.{last-start, nearest-there, nearest-alone}
use Rattle.soc_symfile.proofs.places.nearest.Goals.{then-count-eq1-via-then-count-eq1, then-count-eq1-via-else-count-eq1+then-places-count}
use Rattle.soc_symfile.proofs.places.nearest.Goals as goal

pub returns-then-count-eq0 : goal.returns-then-count-eq0
returns-then-count-eq0 c = λ keys index. last-start _ keys _ _ index (c.count_to-count.ensures.point index.sorted) c.if-count-eq0.true

pub returns-then-count-eq1 : goal.returns-then-count-eq1
returns-then-count-eq1 c = λ keys index. nearest-alone c.args.places.now keys c.args.offset c.count_to-count.result _ index (c.count_to-count.ensures.point index.sorted) c.count_to-count.ensures.bound c.if-count-eq0.false
    (elim c.then-count-eq1.branch [
      | then-count-eq1-via-then-count-eq1 w ↦ λ more. absurd (omega (arith, w.if-count-eq1.true))
      | then-count-eq1-via-else-count-eq1+then-places-count w ↦ λ more. w.if-places-count.true
    ])

pub returns : goal.returns
returns c = λ keys index. nearest-there _ keys _ _ _ _ index (c.count_to-count.ensures.point index.sorted) c.count_to-count.ensures.bound c.if-count-eq0.false (c.first_of.ensures keys index)
