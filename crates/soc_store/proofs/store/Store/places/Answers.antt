use Rattle.std.proofs.Common.{◌∙◌, ap, subst}
use Rattle.soc_schema.specs.Fields.{IsField}
use Rattle.soc_store.specs.inner.Postings.{places_in}
use Rattle.soc_store.proofs.StoreLemmas.{places_kept}
use Rattle.soc_store.proofs.store.Store.places.Goals as goal

pub returns-in-Some : goal.returns-in-Some
returns-in-Some c = c.places.ensures ∙ ap places_in c.in-Some.ensures ∙ places_kept c.self.inside.fields c.self.inside.rows c.args.self.now c.self.invariant c.self.view_is c.from.result c.args.field (c.from.ensures ∙ c.place.ensures.value) (subst IsField c.place.ensures.value c.place.ensures.in_table) c.index-self-from.result c.args.value.now

pub returns-in-None : goal.returns-in-None
returns-in-None c = ap places_in c.in-None.ensures ∙ places_kept c.self.inside.fields c.self.inside.rows c.args.self.now c.self.invariant c.self.view_is c.from.result c.args.field (c.from.ensures ∙ c.place.ensures.value) (subst IsField c.place.ensures.value c.place.ensures.in_table) c.index-self-from.result c.args.value.now
