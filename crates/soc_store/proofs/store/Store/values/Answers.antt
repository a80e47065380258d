use Rattle.std.proofs.Common.{◌∙◌, subst}
use Rattle.soc_schema.specs.Fields.{IsField}
use Rattle.soc_store.proofs.StoreLemmas.{count_kept}
use Rattle.soc_store.proofs.DistinctLemmas.{rise_values, values_each, values_matching}
use Rattle.soc_store.proofs.store.Store.values.Goals as goal

pub returns-clause-count : goal.returns-clause-count
returns-clause-count c = c.len.ensures ∙ count_kept c.self.inside.fields c.self.inside.rows c.args.self.now c.self.invariant c.self.view_is c.from.result c.args.field (c.from.ensures ∙ c.place.ensures.value) (subst IsField c.place.ensures.value c.place.ensures.in_table) c.index-self-from.result

pub returns-clause-rising : goal.returns-clause-rising
returns-clause-rising c = rise_values c.args.field c.args.self.now

pub returns-clause-each : goal.returns-clause-each
returns-clause-each c = values_each c.args.field c.args.self.now

pub returns-clause-of_some : goal.returns-clause-of_some
returns-clause-of_some c = λ test. values_matching test c.args.field c.args.self.now
