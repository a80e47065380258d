use Rattle.std.proofs.Common.{◌≡◌, ◌∙◌, Some, sym, subst, ap}
use Rattle.soc_store.specs.inner.Postings.{Posting, PlacesInOrder, posted}
use Rattle.soc_store.proofs.PlaceLemmas.{order-with_place, placed}
use Rattle.soc_store.proofs.term.Term.add.Goals as goal

pub invariant_of-self-2 : goal.invariant_of-self-2
invariant_of-self-2 c =
    let at = placed c.as_slice.result.now c.self.inside.places.items c.args.place c.place_after-i.result c.as_slice.ensures c.place_after-i.ensures.within c.place_after-i.ensures.below c.place_after-i.ensures.above in
    subst PlacesInOrder (sym (c.in_ok-insert.ensures.ok ∙ at)) (order-with_place c.args.place c.self.inside.places.items c.self.invariant)

pub returns-clause-ok : goal.returns-clause-ok
returns-clause-ok c =
    let at = placed c.as_slice.result.now c.self.inside.places.items c.args.place c.place_after-i.result c.as_slice.ensures c.place_after-i.ensures.within c.place_after-i.ensures.below c.place_after-i.ensures.above in
    ap (λ ps. record { value = c.self.inside.value; places = ps }) (c.in_ok-insert.ensures.ok ∙ at)
    ∙ ap (λ (t : Posting). posted t.value c.args.place (Some t)) c.self.view_is
