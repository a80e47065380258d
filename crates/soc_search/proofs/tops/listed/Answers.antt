use Rattle.std.proofs.lemmas.List.{get_or_default}
use Rattle.soc_schema.specs.Values.{values_of}
use Rattle.soc_schema.specs.Fields.{signature_field}
use Rattle.soc_search.specs.inner.Ranks.{top_at}
use Rattle.soc_search.proofs.RankLemmas.{listed_more}
use Rattle.soc_search.proofs.tops.listed.Goals as goal

pub loop-i-preserved : goal.loop-i-preserved
loop-i-preserved c =
    listed_more (top_at (values_of signature_field c.args.store.now) c.args.old_counts.now c.args.old_ranks.now) c.args.ranking.now c.loop-i.i _ c.loop-i.tops c.push.new.self c.in_ok-top.top c.loop-i-test.true (get_or_default c.args.ranking.now c.loop-i.i _ _ c.loop-i-test.true) c.in_ok-top.ensures c.loop-i.invariant c.in_ok-push.ensures.ok
