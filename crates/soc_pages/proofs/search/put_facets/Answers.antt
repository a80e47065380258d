use Rattle.std.proofs.Common.{sym}
use Rattle.soc_pages.specs.Pages.{facet_lines}
use Rattle.soc_pages.proofs.FlatMaps.{flat_step}
use Rattle.soc_pages.proofs.search.put_facets.Goals as goal

pub loop-facet-preserved : goal.loop-facet-preserved
loop-facet-preserved c =
    flat_step facet_lines c.args.facets.now c.loop-facet.facet-index c.facet-item.result c.args.out.now.items c.loop-facet.out.items _ c.loop-facet-test.true (sym c.facet-item.is) c.loop-facet.invariant c.in_ok-put_facet.ensures
