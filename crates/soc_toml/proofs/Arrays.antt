-- The values of an array beside the items that they stand for.
use Rattle.std.proofs.Common.{◌≡◌, ℕ, ◌+◌, ◌<◌, ◌≤◌, suc, Bool, ◌&&◌, List, [], ◌∷◌, ◌++◌, map, length, drop, get_or, refl, sym, ap, ◌∙◌, Option, Some, None, option_map, option_and_then, is_some, append_assoc, append-nil, le-leb}
use Rattle.std.proofs.lemmas.Bool.{lt-leb}
use Rattle.std.proofs.lemmas.List.{drop_all}
use Rattle.toml.specs.Data.{Items, no_items, item, as_str, as_table}
use Rattle.toml.specs.View.{view, items_view}
use Rattle.toml.proofs.Views.{items_view-drop}
use Rattle.toml.specs.declared.value.Value.{Value}
use Rattle.soc_toml.specs.Lists.{list_of, within, all_tables, texts_among}

pub list_of-view : (values : List Value) → list_of (items_view values) ≡ map view values
list_of-view [] = refl
list_of-view (v ∷ vs) = ap (λ rest. view v ∷ rest) (list_of-view vs)

pub length-list_of-view : (values : List Value) → length (list_of (items_view values)) ≡ length values
length-list_of-view [] = refl
length-list_of-view (v ∷ vs) = ap suc (length-list_of-view vs)

-- what is left at an index, by the value there
pub items-here : (values : List Value) (i : ℕ) (value : Value) → i < length values → value ≡ get_or values i value → items_view (drop i values) ≡ item (view value) (items_view (drop (i + 1) values))
items-here values i value below is = rw is (items_view-drop values i value below)

pub items-end : (values : List Value) (i : ℕ) → length values ≤ i → items_view (drop i values) ≡ no_items
items-end values i past = ap items_view (drop_all i values past)

pub within-view : (values : List Value) (most : ℕ) → length values ≤ most → within most (items_view values) ≡ Some (items_view values)
within-view values most fits = rw (length-list_of-view values, le-leb (length values) most fits)

pub within-past : (values : List Value) (most : ℕ) → most < length values → within most (items_view values) ≡ None
within-past values most over = rw (length-list_of-view values, lt-leb (length values) most over)

pub all_tables-here : (values : List Value) (i : ℕ) (value : Value) (b : Bool) → i < length values → value ≡ get_or values i value → b ≡ is_some (as_table (view value))
    → all_tables (items_view (drop i values)) ≡ (b && all_tables (items_view (drop (i + 1) values)))
all_tables-here values i value b below is test = ap all_tables (items-here values i value below is) ∙ ap (λ t. t && all_tables (items_view (drop (i + 1) values))) (sym test)

-- the texts so far, before those of what is left
abbrev pub after : List (List ℕ) → Items → Option (List (List ℕ))
after texts items = option_map (λ more. texts ++ more) (texts_among items)

push_front : (texts : List (List ℕ)) (text : List ℕ) (left : Option (List (List ℕ)))
    → option_map (λ more. texts ++ more) (option_map (λ more. text ∷ more) left) ≡ option_map (λ more. (texts ++ text ∷ []) ++ more) left
push_front texts text None = refl
push_front texts text (Some more) = ap Some (sym (append_assoc texts (text ∷ []) more))

pub after-text : (values : List Value) (i : ℕ) (value : Value) (texts : List (List ℕ)) (text copy : List ℕ) (more : List (List ℕ)) → i < length values → value ≡ get_or values i value
    → Some text ≡ as_str (view value) → copy ≡ text → more ≡ texts ++ copy ∷ []
    → after texts (items_view (drop i values)) ≡ after more (items_view (drop (i + 1) values))
after-text values i value texts text copy more below is found copied pushed =
    ap (after texts) (items-here values i value below is)
    ∙ ap (λ t. option_map (λ more. texts ++ more) (option_and_then (λ first. option_map (λ more. first ∷ more) (texts_among (items_view (drop (i + 1) values)))) t)) (sym found)
    ∙ push_front texts text (texts_among (items_view (drop (i + 1) values)))
    ∙ ap (λ t. after t (items_view (drop (i + 1) values))) (sym (pushed ∙ ap (λ t. texts ++ t ∷ []) copied))

pub after-other : (values : List Value) (i : ℕ) (value : Value) (texts : List (List ℕ)) → i < length values → value ≡ get_or values i value → None ≡ as_str (view value)
    → after texts (items_view (drop i values)) ≡ None
after-other values i value texts below is found =
    ap (after texts) (items-here values i value below is)
    ∙ ap (λ t. option_map (λ more. texts ++ more) (option_and_then (λ first. option_map (λ more. first ∷ more) (texts_among (items_view (drop (i + 1) values)))) t)) (sym found)

pub after-end : (values : List Value) (i : ℕ) (texts : List (List ℕ)) → length values ≤ i → after texts (items_view (drop i values)) ≡ Some texts
after-end values i texts past = ap (after texts) (items-end values i past) ∙ ap Some (append-nil texts)

nothing_before : (left : Option (List (List ℕ))) → left ≡ option_map (λ more. [] ++ more) left
nothing_before None = refl
nothing_before (Some more) = refl

pub after-begins : (values : List Value) (texts : List (List ℕ)) → texts ≡ [] → texts_among (items_view values) ≡ after texts (items_view values)
after-begins values texts none = nothing_before (texts_among (items_view values)) ∙ ap (λ t. after t (items_view values)) (sym none)
