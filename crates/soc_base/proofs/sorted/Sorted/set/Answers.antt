use Rattle.std.proofs.Common.{refl, map, ◌∙◌, ap, Ok, Err}
use Rattle.soc_base.specs.Names.{with_value}
use Rattle.soc_base.proofs.Places.{written_at_place, inserted_at_gap, rising_after, place_along}
use Rattle.soc_base.proofs.sorted.Sorted.set.Goals as goal

pub invariant_of-self : goal.invariant_of-self
invariant_of-self g c =
    rising_after (map (λ e. (e.name, e.value)) c.self.inside.entries.items) _ c.args.name c.args.value c.self.invariant
    (written_at_place (λ e. e.name) (λ e. e.value) c.self.inside.entries.items c.args.name c.args.value c.in-Ok.place c.index_mut.result.now _ (place_along (λ e. e.name) (λ e. e.value) (Ok c.in-Ok.place) c.as_slice.ensures.value c.as_str.ensures c.in-Ok.ensures) c.index_mut.ensures.value refl refl)

pub invariant_of-self-in-Continue-1 : goal.invariant_of-self-in-Continue-1
invariant_of-self-in-Continue-1 g c =
    rising_after (map (λ e. (e.name, e.value)) c.self.inside.entries.items) _ c.args.name c.args.value c.self.invariant
    (ap (λ es. map (λ e. (e.name, e.value)) es) c.in_ok-put_in-in-Err.ensures.ok
    ∙ inserted_at_gap (λ e. e.name) (λ e. e.value) c.self.inside.entries.items c.args.name c.args.value c.in-Err.place _ (place_along (λ e. e.name) (λ e. e.value) (Err c.in-Err.place) c.as_slice.ensures.value c.as_str.ensures c.in-Err.ensures) refl refl)

pub returns-in-Ok-clause-ok : goal.returns-in-Ok-clause-ok
returns-in-Ok-clause-ok g c =
    written_at_place (λ e. e.name) (λ e. e.value) c.self.inside.entries.items c.args.name c.args.value c.in-Ok.place c.index_mut.result.now _ (place_along (λ e. e.name) (λ e. e.value) (Ok c.in-Ok.place) c.as_slice.ensures.value c.as_str.ensures c.in-Ok.ensures) c.index_mut.ensures.value refl refl
    ∙ ap (λ ps. with_value ps c.args.name c.args.value) c.self.view_is

pub returns-in_ok-put_in-in-Err-clause-ok : goal.returns-in_ok-put_in-in-Err-clause-ok
returns-in_ok-put_in-in-Err-clause-ok g c =
    ap (λ es. map (λ e. (e.name, e.value)) es) c.in_ok-put_in-in-Err.ensures.ok
    ∙ inserted_at_gap (λ e. e.name) (λ e. e.value) c.self.inside.entries.items c.args.name c.args.value c.in-Err.place _ (place_along (λ e. e.name) (λ e. e.value) (Err c.in-Err.place) c.as_slice.ensures.value c.as_str.ensures c.in-Err.ensures) refl refl
    ∙ ap (λ ps. with_value ps c.args.name c.args.value) c.self.view_is
