use Rattle.std.proofs.Common.{◌∙◌, ap, refl, Ok, Err}
use Rattle.soc_base.specs.Names.{value_of}
use Rattle.soc_base.proofs.Places.{found_at_place, missing_at_gap, place_along}
use Rattle.soc_base.proofs.sorted.Sorted.get.Goals as goal

pub returns-in-Ok : goal.returns-in-Ok
returns-in-Ok g c =
    found_at_place (λ e. e.name) (λ e. e.value) c.self.inside.entries.items c.args.name.now c.in-Ok.place c.index.result.now
    (place_along (λ e. e.name) (λ e. e.value) (Ok c.in-Ok.place) c.as_slice.ensures.value refl c.in-Ok.ensures) c.index.ensures
    ∙ ap (λ ps. value_of ps c.args.name.now) c.self.view_is

pub returns-in-Err : goal.returns-in-Err
returns-in-Err g c =
    missing_at_gap (λ e. e.name) (λ e. e.value) c.self.inside.entries.items c.args.name.now c.in-Err.field-0
    (place_along (λ e. e.name) (λ e. e.value) (Err c.in-Err.field-0) c.as_slice.ensures.value refl c.in-Err.ensures)
    ∙ ap (λ ps. value_of ps c.args.name.now) c.self.view_is
