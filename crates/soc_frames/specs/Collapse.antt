-- A name without what stands in brackets (this project's profile, after Socorro's `collapse`).
use Rattle.std.specs.Prelude.{ℕ, ◌==◌, if◌then◌else◌, List, [], ◌∷◌, codes}
use Rattle.std.specs.List.{flat_map}
use Rattle.soc_frames.specs.declared.walk.Place.{Place}
use Rattle.soc_frames.specs.Depth.{Nested, nested_of, is_outer, open_angle, open_round}

-- what stands for a group of `<`
abbrev pub template : List ℕ
template = codes "<T>"

-- what stands for a place outside of brackets: `<T>` for a group of `<`, nothing for one of `(`
abbrev pub outer_text : Place → List ℕ
outer_text place =
    if place.is_plain then place.byte ∷ []
    else if place.byte == open_angle then template
    else if place.byte == open_round then []
    else place.byte ∷ []

-- what stands for a place: nothing inside of brackets
abbrev pub kept_text : Nested → List ℕ
kept_text nested = if is_outer nested.open_before then outer_text nested.place else []

abbrev pub collapsed : List ℕ → List ℕ
collapsed text = flat_map kept_text (nested_of text)
