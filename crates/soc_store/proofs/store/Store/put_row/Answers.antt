use Rattle.std.proofs.Common.{◌∙◌, sym, subst, arith}
use Rattle.soc_store.specs.inner.Postings.{AreKept}
use Rattle.soc_store.specs.Stored.{PlacesRise, row_at}
use Rattle.soc_store.proofs.StoreLemmas.{no_row, at_place, rise_with, postings_kept, kept_inserted, kept_replaced, kept_undone}
use Rattle.soc_store.proofs.store.Store.put_row.Goals as goal

pub add_values-requires-clause-postings : goal.add_values-requires-clause-postings
add_values-requires-clause-postings c = postings_kept c.self.inside.rows c.self.inside.fields c.self.invariant c.args.place

pub invariant_of-self-in-Ok-None : goal.invariant_of-self-in-Ok-None
invariant_of-self-in-Ok-None c =
    let none = no_row (row_at c.args.place c.self.inside.rows) (sym c.in-Ok-None.field-0-is ∙ c.in-Ok-None.ensures.old) in (
      subst PlacesRise (sym c.in-Ok-None.ensures.ok) (rise_with c.args.place c.args.row c.self.inside.rows c.self.invariant.0),
      subst (AreKept c.add_values.new.fields) (sym c.in-Ok-None.ensures.ok) (kept_inserted c.self.inside.rows c.self.inside.fields c.self.invariant c.args.place c.args.row c.add_values.new.fields c.in_default.ensures.ok none),
      omega (arith, c.add_values.auto.fields, c.self.invariant.2),
    )

pub invariant_of-self-in-Ok-Some : goal.invariant_of-self-in-Ok-Some
invariant_of-self-in-Ok-Some c =
    let there = at_place c.args.place c.self.inside.rows c.in-Ok-Some.old (sym c.in-Ok-Some.field-0-is ∙ c.in-Ok-Some.ensures.old) in (
      subst PlacesRise (sym c.in-Ok-Some.ensures.ok) (rise_with c.args.place c.args.row c.self.inside.rows c.self.invariant.0),
      subst (AreKept c.remove_values.new.fields) (sym c.in-Ok-Some.ensures.ok) (kept_replaced c.self.inside.rows c.self.inside.fields c.self.invariant c.args.place c.args.row c.add_values.new.fields c.in_default.ensures.ok
          c.remove_values.new.fields c.in-Ok-Some.old c.len.result there c.len.ensures c.remove_values.ensures),
      omega (arith, c.remove_values.auto.fields, c.add_values.auto.fields, c.self.invariant.2),
    )

pub invariant_of-self-in-Err-put : goal.invariant_of-self-in-Err-put
invariant_of-self-in-Err-put c = (
  subst PlacesRise (sym c.in-Err-put.ensures.err) c.self.invariant.0,
  subst (AreKept c.remove_values-in-Err-put.new.fields) (sym c.in-Err-put.ensures.err) (kept_undone c.self.inside.rows c.self.inside.fields c.self.invariant c.args.place c.args.row c.add_values.new.fields c.in_default.ensures.ok
      c.remove_values-in-Err-put.new.fields c.in-Err-put.row c.len-in-Err-put.result c.in-Err-put.ensures.back c.len-in-Err-put.ensures c.remove_values-in-Err-put.ensures),
  omega (arith, c.remove_values-in-Err-put.auto.fields, c.add_values.auto.fields, c.self.invariant.2),
)
