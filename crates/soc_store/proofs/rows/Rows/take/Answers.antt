use Rattle.std.proofs.Common.{◌≡◌, ◌∙◌, ap, sym, subst, Some, Ok, Err, refl}
use Rattle.std.specs.Prelude.{option_map}
use Rattle.std.specs.Ordering.{nat_cmp}
use Rattle.soc_store.specs.Stored.{PlacesRise, row_at, rows_in, without_row}
use Rattle.soc_schema.specs.Tables.{FindsKey}
use Rattle.soc_store.proofs.StoreLemmas.{row_found, row_missing, rows_remove, rows_same, rise_without, place_of}
use Rattle.soc_store.proofs.rows.Rows.take.Goals as goal

found : (c : goal.After-into_inner) → FindsKey place_of nat_cmp c.args.place (rows_in (λ e. e.place) (λ e. e.row.value) c.self.inside.entries.items) (Ok c.in-Ok.i)
found c = subst (λ es. FindsKey place_of nat_cmp c.args.place (rows_in (λ e. e.place) (λ e. e.row.value) es) (Ok c.in-Ok.i)) c.as_slice.ensures.value c.in-Ok.ensures

left : (c : goal.After-into_inner) → rows_in (λ e. e.place) (λ e. e.row.value) c.remove-row.new.self.items ≡ without_row c.args.place (rows_in (λ e. e.place) (λ e. e.row.value) c.self.inside.entries.items)
left c = ap (rows_in (λ e. e.place) (λ e. e.row.value)) c.remove-row.ensures.items ∙ rows_remove (λ e. e.place) (λ e. e.row.value) c.self.inside.entries.items c.args.place c.in-Ok.i c.remove-row.result (found c) c.remove-row.ensures.value c.self.invariant

pub invariant_of-self : goal.invariant_of-self
invariant_of-self c = subst PlacesRise (sym (left c)) (rise_without c.args.place (rows_in (λ e. e.place) (λ e. e.row.value) c.self.inside.entries.items) c.self.invariant)

pub returns-in-Ok : goal.returns-in-Ok
returns-in-Ok c = record {
  row = ap Some c.into_inner.ensures
      ∙ ap (option_map (λ s. s.1)) (sym (row_found (λ e. e.place) (λ e. e.row.value) c.self.inside.entries.items c.args.place c.in-Ok.i c.remove-row.result (found c) c.remove-row.ensures.value c.self.invariant) ∙ ap (row_at c.args.place) c.self.view_is);
  left = left c ∙ ap (without_row c.args.place) c.self.view_is;
  none = tt;
}

pub returns-in-Err : goal.returns-in-Err
returns-in-Err c =
    let place = subst (λ es. FindsKey place_of nat_cmp c.args.place (rows_in (λ e. e.place) (λ e. e.row.value) es) (Err c.in-Err.field-0)) c.as_slice.ensures.value c.in-Err.ensures in
    record {
      row = ap (option_map (λ s. s.1)) (sym (row_missing (λ e. e.place) (λ e. e.row.value) c.self.inside.entries.items c.args.place c.in-Err.field-0 place) ∙ ap (row_at c.args.place) c.self.view_is);
      left = sym c.self.view_is ∙ rows_same (λ e. e.place) (λ e. e.row.value) c.self.inside.entries.items c.args.place c.in-Err.field-0 place ∙ ap (without_row c.args.place) c.self.view_is;
      none = refl;
    }
