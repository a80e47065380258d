use Rattle.std.proofs.Common.{◌∙◌, ◌<◌, ap, sym, subst}
use Rattle.std.specs.Prelude.{slice_get}
use Rattle.soc_schema.specs.Fields.{IsField}
use Rattle.soc_store.proofs.StoreLemmas.{values_kept, count_kept}
use Rattle.soc_store.proofs.store.Store.value_at.Goals as goal

pub value_at-requires : goal.value_at-requires
value_at-requires c = subst (λ n. c.args.i < n) (sym (count_kept c.self.inside.fields c.self.inside.rows c.args.self.now c.self.invariant c.self.view_is c.from.result c.args.field (c.from.ensures ∙ c.place.ensures.value) (subst IsField c.place.ensures.value c.place.ensures.in_table) c.index-self-from.result)) c.requires

pub returns : goal.returns
returns c = ap (λ vs. slice_get vs c.args.i) (sym (values_kept c.self.inside.fields c.self.inside.rows c.args.self.now c.self.invariant c.self.view_is c.from.result c.args.field (c.from.ensures ∙ c.place.ensures.value) (subst IsField c.place.ensures.value c.place.ensures.in_table) c.index-self-from.result)) ∙ c.value_at.ensures
