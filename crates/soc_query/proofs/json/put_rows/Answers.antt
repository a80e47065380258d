use Rattle.std.proofs.Common.{sym}
use Rattle.soc_schema.specs.RowJson.{row_json}
use Rattle.soc_schema.proofs.CommaLemmas.{joined_step}
use Rattle.soc_query.proofs.json.put_rows.Goals as goal

pub loop-i-preserved : goal.loop-i-preserved
loop-i-preserved c =
    joined_step row_json c.args.rows.now c.loop-i.i c.index-rows-i.result c.args.out.now.items c.loop-i.out.items c.put_comma.new.out.items _ c.loop-i-test.true (sym c.index-rows-i.is) c.loop-i.invariant c.in_ok-put_comma.ensures c.in_ok-put_row.ensures
