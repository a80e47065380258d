use Rattle.std.proofs.Common.{◌∙◌, ◌<◌, sym, subst}
use Rattle.soc_schema.specs.Fields.{IsField}
use Rattle.soc_store.proofs.StoreLemmas.{count_kept, rows_kept}
use Rattle.soc_store.proofs.store.Store.count_near.Goals as goal

pub count_near-requires : goal.count_near-requires
count_near-requires c = subst (λ n. c.args.i < n) (sym (count_kept c.self.inside.fields c.self.inside.rows c.args.self.now c.self.invariant c.self.view_is c.from.result c.args.field (c.from.ensures ∙ c.place.ensures.value) (subst IsField c.place.ensures.value c.place.ensures.in_table) c.index-self-from.result)) c.requires

pub returns : goal.returns
returns c = rows_kept c.self.inside.fields c.self.inside.rows c.args.self.now c.self.invariant c.self.view_is c.from.result c.args.field (c.from.ensures ∙ c.place.ensures.value) (subst IsField c.place.ensures.value c.place.ensures.in_table) c.index-self-from.result c.args.i c.count_near.result c.count_near.ensures
