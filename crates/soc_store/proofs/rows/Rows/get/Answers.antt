use Rattle.std.proofs.Common.{◌∙◌, ap, sym, subst, Some, Ok, Err}
use Rattle.std.specs.Prelude.{option_map}
use Rattle.std.specs.Ordering.{nat_cmp}
use Rattle.soc_store.specs.Stored.{row_at, rows_in}
use Rattle.soc_schema.specs.Tables.{FindsKey}
use Rattle.soc_store.proofs.StoreLemmas.{row_found, row_missing, place_of}
use Rattle.soc_store.proofs.rows.Rows.get.Goals as goal

pub returns-in-Ok : goal.returns-in-Ok
returns-in-Ok c =
    let place = subst (λ es. FindsKey place_of nat_cmp c.args.place (rows_in (λ e. e.place) (λ e. e.row.value) es) (Ok c.in-Ok.i)) c.as_slice.ensures.value c.in-Ok.ensures in
    ap Some c.deref.ensures
    ∙ ap (option_map (λ s. s.1)) (sym (row_found (λ e. e.place) (λ e. e.row.value) c.self.inside.entries.items c.args.place c.in-Ok.i c.index.result.now place c.index.ensures c.self.invariant) ∙ ap (row_at c.args.place) c.self.view_is)

pub returns-in-Err : goal.returns-in-Err
returns-in-Err c =
    let place = subst (λ es. FindsKey place_of nat_cmp c.args.place (rows_in (λ e. e.place) (λ e. e.row.value) es) (Err c.in-Err.field-0)) c.as_slice.ensures.value c.in-Err.ensures in
    ap (option_map (λ s. s.1)) (sym (row_missing (λ e. e.place) (λ e. e.row.value) c.self.inside.entries.items c.args.place c.in-Err.field-0 place) ∙ ap (row_at c.args.place) c.self.view_is)
