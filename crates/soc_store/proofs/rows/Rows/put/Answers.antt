use Rattle.std.proofs.Common.{◌≡◌, ◌∙◌, ap, sym, subst, Some, Ok, Err, set, refl}
use Rattle.std.specs.Prelude.{option_map}
use Rattle.std.specs.Ordering.{nat_cmp}
use Rattle.soc_store.specs.Stored.{PlacesRise, row_at, rows_in, with_row}
use Rattle.soc_schema.specs.Tables.{FindsKey}
use Rattle.soc_store.proofs.StoreLemmas.{row_found, row_missing, rows_set, rows_insert, rise_with, place_of}
use Rattle.soc_store.proofs.rows.Rows.put.Goals as goal

found : (c : goal.After-self-1) → FindsKey place_of nat_cmp c.args.place (rows_in (λ e. e.place) (λ e. e.row.value) c.self.inside.entries.items) (Ok c.in-Ok.i)
found c = subst (λ es. FindsKey place_of nat_cmp c.args.place (rows_in (λ e. e.place) (λ e. e.row.value) es) (Ok c.in-Ok.i)) c.as_slice.ensures.value c.in-Ok.ensures

put_there : (c : goal.After-self-1) → rows_in (λ e. e.place) (λ e. e.row.value) (set c.self.inside.entries.items c.in-Ok.i (record { place = c.index_mut.result.now.place; row = Rattle.std.specs.Box.with_value c.index_mut.result.now.row c.replace.new.dest })) ≡ with_row (c.args.place, c.args.row) (rows_in (λ e. e.place) (λ e. e.row.value) c.self.inside.entries.items)
put_there c =
    rows_set (λ e. e.place) (λ e. e.row.value) c.self.inside.entries.items c.args.place c.in-Ok.i c.index_mut.result.now (found c) c.index_mut.ensures.value (record { place = c.index_mut.result.now.place; row = Rattle.std.specs.Box.with_value c.index_mut.result.now.row c.replace.new.dest }) c.self.invariant refl
    ∙ ap (λ r. with_row (c.args.place, r) (rows_in (λ e. e.place) (λ e. e.row.value) c.self.inside.entries.items)) c.replace.ensures.after

pub invariant_of-self : goal.invariant_of-self
invariant_of-self c = subst PlacesRise (sym (put_there c)) (rise_with c.args.place c.args.row (rows_in (λ e. e.place) (λ e. e.row.value) c.self.inside.entries.items) c.self.invariant)

pub returns-in-Ok : goal.returns-in-Ok
returns-in-Ok c = record {
  old = ap Some (c.replace.ensures.value ∙ c.deref_mut.ensures.value)
      ∙ ap (option_map (λ s. s.1)) (sym (row_found (λ e. e.place) (λ e. e.row.value) c.self.inside.entries.items c.args.place c.in-Ok.i c.index_mut.result.now (found c) c.index_mut.ensures.value c.self.invariant) ∙ ap (row_at c.args.place) c.self.view_is);
  ok = put_there c ∙ ap (with_row (c.args.place, c.args.row)) c.self.view_is;
  err = tt;
  back = tt;
}

missing : (c : goal.In_default) → FindsKey place_of nat_cmp c.args.place (rows_in (λ e. e.place) (λ e. e.row.value) c.self.inside.entries.items) (Err c.in-Err.i)
missing c = subst (λ es. FindsKey place_of nat_cmp c.args.place (rows_in (λ e. e.place) (λ e. e.row.value) es) (Err c.in-Err.i)) c.as_slice.ensures.value c.in-Err.ensures

put_new : (c : goal.In_default) → rows_in (λ e. e.place) (λ e. e.row.value) c.insert.new.self.items ≡ with_row (c.args.place, c.args.row) (rows_in (λ e. e.place) (λ e. e.row.value) c.self.inside.entries.items)
put_new c =
    ap (rows_in (λ e. e.place) (λ e. e.row.value)) c.in_default.ensures.items
    ∙ rows_insert (λ e. e.place) (λ e. e.row.value) c.self.inside.entries.items c.args.place c.in-Err.i (missing c) (record { place = c.args.place; row = c.in-Ok-new.row }) refl
    ∙ ap (λ r. with_row (c.args.place, r) (rows_in (λ e. e.place) (λ e. e.row.value) c.self.inside.entries.items)) c.in-Ok-new.ensures.ok

pub invariant_of-self-2 : goal.invariant_of-self-2
invariant_of-self-2 c = subst PlacesRise (sym (put_new c)) (rise_with c.args.place c.args.row (rows_in (λ e. e.place) (λ e. e.row.value) c.self.inside.entries.items) c.self.invariant)

pub returns-clause-old : goal.returns-clause-old
returns-clause-old c =
    ap (option_map (λ s. s.1)) (sym (row_missing (λ e. e.place) (λ e. e.row.value) c.self.inside.entries.items c.args.place c.in-Err.i (missing c)) ∙ ap (row_at c.args.place) c.self.view_is)

pub returns-clause-ok : goal.returns-clause-ok
returns-clause-ok c = put_new c ∙ ap (with_row (c.args.place, c.args.row)) c.self.view_is
