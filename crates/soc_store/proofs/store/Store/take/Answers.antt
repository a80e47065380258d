use Rattle.std.proofs.Common.{sym, subst, arith}
use Rattle.soc_store.specs.inner.Postings.{AreKept}
use Rattle.soc_store.specs.Stored.{PlacesRise}
use Rattle.soc_store.proofs.StoreLemmas.{at_place, rise_without, kept_removed}
use Rattle.soc_store.proofs.store.Store.take.Goals as goal

pub invariant_of-self : goal.invariant_of-self
invariant_of-self c = (subst PlacesRise (sym c.in_err-row.ensures.none) c.self.invariant.0, subst (AreKept c.self.inside.fields) (sym c.in_err-row.ensures.none) c.self.invariant.1, c.self.invariant.2)

pub invariant_of-self-2 : goal.invariant_of-self-2
invariant_of-self-2 c =
    let there = at_place c.args.place c.self.inside.rows c.in_ok-row.row c.in_ok-row.ensures.row in (
      subst PlacesRise (sym c.in_ok-row.ensures.left) (rise_without c.args.place c.self.inside.rows c.self.invariant.0),
      subst (AreKept c.remove_values.new.fields) (sym c.in_ok-row.ensures.left) (kept_removed c.self.inside.rows c.self.inside.fields c.self.invariant c.args.place c.remove_values.new.fields c.in_ok-row.row c.len.result there c.len.ensures c.remove_values.ensures),
      omega (arith, c.remove_values.auto.fields, c.self.invariant.2),
    )
