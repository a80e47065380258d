use Rattle.std.proofs.Common.{sym}
use Rattle.soc_query.specs.Json.{facet_json}
use Rattle.soc_schema.proofs.CommaLemmas.{joined_step}
use Rattle.soc_query.proofs.json.put_facets.Goals as goal

pub loop-i-preserved : goal.loop-i-preserved
loop-i-preserved c =
    joined_step facet_json c.args.facets.now c.loop-i.i c.index-facets-i.result c.args.out.now.items c.loop-i.out.items c.put_comma.new.out.items _ c.loop-i-test.true (sym c.index-facets-i.is) c.loop-i.invariant c.in_ok-put_comma.ensures c.in_ok-put_facet.ensures
