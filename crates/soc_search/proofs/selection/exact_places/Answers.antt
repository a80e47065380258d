use Rattle.std.proofs.Common.{◌∙◌, ap, sym, map, ◌%◌}
use denote.Ref.{Bor}
use Rattle.soc_query.specs.declared.condition.Condition.{Condition}
use Rattle.soc_search.specs.inner.Places.{has}
use Rattle.soc_search.specs.inner.Selections.{hit_places}
use Rattle.soc_search.proofs.BitLemmas.{none_there}
use Rattle.soc_search.proofs.FieldLemmas.{joined_hits, any_behind}
use Rattle.soc_search.proofs.SelectionLemmas.{inn, joined_all, joins_more}
use Rattle.soc_search.proofs.selection.exact_places.Goals as goal

pub loop-condition-init : goal.loop-condition-init
loop-condition-init c = λ p. ap (λ s. has s p) c.new-set.ensures ∙ none_there (p % 65536)

pub loop-condition-preserved : goal.loop-condition-preserved
loop-condition-preserved c =
    joins_more (has c.loop-condition.set) (has c.add_all.new.self) (λ (d : Bor Condition). hit_places (map (λ (e : Bor Condition). e.now) c.args.asked.now) c.args.field c.args.store.now d.now) c.args.asked.now c.loop-condition.condition-index c.condition-item.result c.hit_places.result.now c.loop-condition-test.true (sym c.condition-item.is)
    c.hit_places.ensures c.in_ok-add_all.ensures c.loop-condition.invariant

pub returns : goal.returns
returns c =
    let asked = map (λ (d : Bor Condition). d.now) c.args.asked.now in
    let joins = joined_all (has c.loop-condition.set) (λ (d : Bor Condition). hit_places asked c.args.field c.args.store.now d.now) c.args.asked.now c.loop-condition.condition-index c.loop-condition-test.false c.loop-condition.invariant in
    joined_hits asked (has c.loop-condition.set) c.args.field c.args.store.now c.places_rise.ensures.rise c.requires
    (λ p. joins p ∙ any_behind (λ d. inn p (hit_places asked c.args.field c.args.store.now d)) c.args.asked.now)
