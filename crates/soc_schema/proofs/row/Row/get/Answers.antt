use Rattle.std.proofs.Common.{◌∙◌}
use Rattle.soc_schema.proofs.RowLemmas.{value_of-read, value_of-none}
use Rattle.soc_schema.proofs.row.Row.get.Goals as goal

pub returns-in-Ok : goal.returns-in-Ok
returns-in-Ok c =
    value_of-read c.deref.result.now c.self.inside.cells.items c.args.self.now c.args.field c.in-Ok.place c.index.result.now c.in-Ok.ensures.place c.deref.ensures.value c.self.view_is c.index.ensures

pub returns-in-Err : goal.returns-in-Err
returns-in-Err c =
    value_of-none c.deref.result.now c.args.self.now c.args.field c.in-Err.field-0 c.in-Err.ensures.place (c.deref.ensures.value ∙ c.self.view_is)
