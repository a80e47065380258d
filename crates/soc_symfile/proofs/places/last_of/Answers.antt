use Rattle.soc_symfile.proofs.PlaceLemmas.{last-start, none-above, last-here, last-else}
use Rattle.soc_symfile.proofs.places.last_of.Goals as goal

pub returns-then-count-eq0 : goal.returns-then-count-eq0
returns-then-count-eq0 c = λ keys index. none-above keys _ (last-start _ keys _ _ index (c.count_to-count.ensures.point index.sorted) c.if-count-eq0.true)

pub returns-then-place-key : goal.returns-then-place-key
returns-then-place-key c = λ keys index. last-here _ keys _ _ _ index (c.count_to-count.ensures.point index.sorted) c.count_to-count.ensures.bound c.if-count-eq0.false c.if-place-key.true

pub returns-else-place-key : goal.returns-else-place-key
returns-else-place-key c = λ keys index. last-else _ keys _ _ _ index (c.count_to-count.ensures.point index.sorted) c.count_to-count.ensures.bound c.if-count-eq0.false c.if-place-key.false
