use Rattle.std.proofs.Common.{sym, subst}
use Rattle.soc_store.specs.inner.Postings.{PlacesInOrder}
use Rattle.soc_store.proofs.PlaceLemmas.{order-without_place}
use Rattle.soc_store.proofs.term.Term.remove.Goals as goal

pub invariant_of-self : goal.invariant_of-self
invariant_of-self c = subst PlacesInOrder (sym c.remove_place.ensures) (order-without_place c.args.place c.self.inside.places.items c.self.invariant)
