use Rattle.soc_schema.proofs.RowJsonLemmas.{row_put}
use Rattle.soc_schema.proofs.json_text.put_row.Goals as goal

pub returns : goal.returns
returns c =
    row_put c.args.row.now c.cells.result.now c.args.out.now.items c.extend_from_slice.new.self.items c.put_cells.new.out.items c.extend_from_slice-2.new.self.items
    c.cells.ensures.value c.cells.ensures.is_row c.in_ok-extend_from_slice.ensures.items c.in_ok-put_cells.ensures c.in_ok-extend_from_slice-2.ensures.items
