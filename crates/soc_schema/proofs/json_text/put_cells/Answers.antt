use Rattle.std.proofs.Common.{sym}
use Rattle.soc_schema.specs.inner.Members.{cell_json}
use Rattle.soc_schema.proofs.CommaLemmas.{joined_step}
use Rattle.soc_schema.proofs.json_text.put_cells.Goals as goal

pub loop-i-preserved : goal.loop-i-preserved
loop-i-preserved c =
    joined_step cell_json c.args.cells.now c.loop-i.i c.index-cells-i.result c.args.out.now.items c.loop-i.out.items c.put_comma.new.out.items _ c.loop-i-test.true (sym c.index-cells-i.is) c.loop-i.invariant c.in_ok-put_comma.ensures c.in_ok-put_cell.ensures
