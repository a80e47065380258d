use Rattle.std.proofs.Common.{◌∙◌, sym}
use Rattle.std.proofs.lemmas.List.{get_or-map}
use Rattle.soc_schema.specs.declared.value.Cell.{Cell}
use Rattle.soc_schema.proofs.row.field_at.Goals as goal

pub returns : goal.returns
returns c =
    c.place.ensures.value ∙ sym (get_or-map (λ (e : Cell). e.field) c.args.cells.now c.args.i c.index-cells-i.result 0 c.requires)
