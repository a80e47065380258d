use Rattle.std.proofs.Common.{◌∙◌, ◌<◌, ap, sym, subst, Some}
use Rattle.std.specs.Prelude.{slice_get}
use Rattle.soc_schema.specs.Fields.{IsField}
use Rattle.soc_store.specs.Stored.{places_of}
use Rattle.soc_store.specs.inner.Postings.{places_in}
use Rattle.soc_store.proofs.StoreLemmas.{values_kept, count_kept, places_kept}
use Rattle.soc_store.proofs.store.Store.term_near.Goals as goal

pub term_near-term-requires : goal.term_near-term-requires
term_near-term-requires c = subst (λ n. c.args.i < n) (sym (count_kept c.self.inside.fields c.self.inside.rows c.args.self.now c.self.invariant c.self.view_is c.from.result c.args.field (c.from.ensures ∙ c.place.ensures.value) (subst IsField c.place.ensures.value c.place.ensures.in_table) c.index-self-from.result)) c.requires

pub returns-clause-value : goal.returns-clause-value
returns-clause-value c = ap (λ vs. slice_get vs c.args.i) (sym (values_kept c.self.inside.fields c.self.inside.rows c.args.self.now c.self.invariant c.self.view_is c.from.result c.args.field (c.from.ensures ∙ c.place.ensures.value) (subst IsField c.place.ensures.value c.place.ensures.in_table) c.index-self-from.result)) ∙ c.term_near-term.ensures.value ∙ ap Some (sym c.value.ensures)

pub returns-clause-places : goal.returns-clause-places
returns-clause-places c =
    c.places.ensures ∙ ap places_in (sym c.term_near-term.ensures.found) ∙ places_kept c.self.inside.fields c.self.inside.rows c.args.self.now c.self.invariant c.self.view_is c.from.result c.args.field (c.from.ensures ∙ c.place.ensures.value) (subst IsField c.place.ensures.value c.place.ensures.in_table) c.index-self-from.result c.term_near-term.result.now.value
    ∙ ap (λ v. places_of c.args.field v c.args.self.now) (sym c.value.ensures)
