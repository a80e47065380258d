use Rattle.std.proofs.Common.{sym}
use Rattle.soc_pages.specs.Pages.{top_row}
use Rattle.soc_pages.proofs.FlatMaps.{flat_step}
use Rattle.soc_pages.proofs.tops.put_tops.Goals as goal

pub loop-top-preserved : goal.loop-top-preserved
loop-top-preserved c =
    flat_step top_row c.args.tops.now c.loop-top.top-index c.top-item.result c.args.out.now.items c.loop-top.out.items _ c.loop-top-test.true (sym c.top-item.is) c.loop-top.invariant c.in_ok-put_top.ensures
