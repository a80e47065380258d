use Rattle.soc_search.proofs.HitLemmas.{cut_out}
use Rattle.soc_search.proofs.hits.part_of.Goals as goal

pub returns : goal.returns
returns c = cut_out (λ row. row.now) c.args.rows.now c.args.offset c.args.number c.min-first.result c.min-count.result c.min-first.ensures c.min-count.ensures
