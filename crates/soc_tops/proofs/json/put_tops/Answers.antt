use Rattle.std.proofs.Common.{sym}
use Rattle.soc_tops.specs.Json.{top_json}
use Rattle.soc_schema.proofs.CommaLemmas.{joined_step}
use Rattle.soc_tops.proofs.json.put_tops.Goals as goal

pub loop-i-preserved : goal.loop-i-preserved
loop-i-preserved c =
    joined_step top_json c.args.tops.now c.loop-i.i c.index-tops-i.result c.args.out.now.items c.loop-i.out.items c.put_comma.new.out.items _ c.loop-i-test.true (sym c.index-tops-i.is) c.loop-i.invariant c.in_ok-put_comma.ensures c.in_ok-put_top.ensures
