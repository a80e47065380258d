use Rattle.std.proofs.Common.{◌∙◌, ap}
use Rattle.soc_schema.specs.Orders.{value_cmp}
use Rattle.soc_schema.specs.Tables.{at_key}
use Rattle.soc_store.proofs.IndexLemmas.{value}
use Rattle.soc_store.proofs.PartSteps.{found_at_part}
use Rattle.soc_store.proofs.index.Index.term.Goals as goal

pub returns : goal.returns
returns c =
    c.term.ensures
    ∙ found_at_part c.deref.result.now c.self.inside.parts.items c.part_of-k.result c.index.result.now c.index.result.now c.args.value.now c.deref.ensures.value c.part_of-k.ensures.within c.part_of-k.ensures.before c.part_of-k.ensures.after c.index.ensures
    ∙ ap (at_key value value_cmp c.args.value.now) c.self.view_is
