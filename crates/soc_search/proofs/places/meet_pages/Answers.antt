use Rattle.std.proofs.Common.{arith}
use Rattle.soc_search.proofs.BitLemmas.{page_step}
use Rattle.soc_search.proofs.places.meet_pages.Goals as goal

pub loop-i-preserved : goal.loop-i-preserved
loop-i-preserved c =
    page_step c.args.how c.loop-i.pages c.args.pages.now c.args.other.now c.loop-i.i c.index-pages-i.result c.meet.new.self c.words_of.result.now (omega arith) c.loop-i.invariant.0 c.loop-i.invariant.1 c.words_of.ensures c.meet.ensures
