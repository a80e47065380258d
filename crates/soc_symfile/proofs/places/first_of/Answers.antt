use Rattle.std.proofs.Common.{arith}
use Rattle.soc_symfile.proofs.PlaceLemmas.{first-end, first-here, first-else}
use Rattle.soc_symfile.proofs.places.first_of.Goals as goal

pub returns-then-count-places : goal.returns-then-count-places
returns-then-count-places c = λ keys index. first-end _ keys _ _ index (c.count_below-count.ensures.point index.sorted) (omega arith)

pub returns-then-place-key : goal.returns-then-place-key
returns-then-place-key c = λ keys index. first-here _ keys _ _ _ index (c.count_below-count.ensures.point index.sorted) (omega arith) c.if-place-key.true

pub returns-else-place-key : goal.returns-else-place-key
returns-else-place-key c = λ keys index. first-else _ keys _ _ _ index (c.count_below-count.ensures.point index.sorted) (omega arith) c.if-place-key.false
