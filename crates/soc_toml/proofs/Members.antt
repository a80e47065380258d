-- The first key that is none of the names, along the entries of a table.
use Rattle.std.proofs.Common.{◌≡◌, ℕ, Bool, true, false, ◌||◌, List, [], ◌∷◌, map, String, Global, string_bytes, refl, sym, ap, ◌∙◌, Bor, Some}
use Rattle.std.specs.List.{list_any}
use Rattle.std.specs.Str.{bytes_eq}
use Rattle.std.specs.List.Sorted.{IsStrictlySortedBy}
use Rattle.std.specs.Map.{keys_of}
use Rattle.std.specs.String.{string_cmp}
use Rattle.toml.proofs.Views.{Entry, is_before-sorted}
use Rattle.toml.specs.View.{members_view}
use Rattle.toml.specs.declared.value.Value.{Value}
use Rattle.soc_toml.specs.Keys.{first_other, keys_rise}

pub list_any-map : {A B : Type 0} (test : B → Bool) (f : A → B) (xs : List A) → list_any test (map f xs) ≡ list_any (λ x. test (f x)) xs
list_any-map test f [] = refl
list_any-map test f (x ∷ xs) = ap (λ b. test (f x) || b) (list_any-map test f xs)

-- the names that references lead to
abbrev pub names_of : List (Bor (List ℕ)) → List (List ℕ)
names_of names = map (λ name. name.now) names

among : (names : List (Bor (List ℕ))) (key : List ℕ) (b : Bool) → b ≡ list_any (λ name. bytes_eq key name.now) names → list_any (bytes_eq key) (names_of names) ≡ b
among names key b is = list_any-map (bytes_eq key) (λ name. name.now) names ∙ sym is

-- a key that is none of the names is the first where all before it are
pub first_other-found : (names : List (Bor (List ℕ))) (all left rest : List Entry) (key : String Global) (value : Value) (text : List ℕ) (b : Bool)
    → first_other (names_of names) (members_view all) ≡ first_other (names_of names) (members_view left) → left ≡ (key, value) ∷ rest
    → text ≡ string_bytes key → b ≡ list_any (λ name. bytes_eq text name.now) names → b ≡ false
    → Some (string_bytes key) ≡ first_other (names_of names) (members_view all)
first_other-found names all left rest key value text b before step same is none =
    let test : list_any (bytes_eq (string_bytes key)) (names_of names) ≡ false = rw (← same) (among names text b is ∙ none) in
    let here : first_other (names_of names) (members_view ((key, value) ∷ rest)) ≡ Some (string_bytes key) = rw test in
    sym (before ∙ ap (λ es. first_other (names_of names) (members_view es)) step ∙ here)

-- a key that is one of the names is passed over
pub first_other-passed : (names : List (Bor (List ℕ))) (all left rest : List Entry) (key : String Global) (value : Value) (text : List ℕ) (b : Bool)
    → first_other (names_of names) (members_view all) ≡ first_other (names_of names) (members_view left) → left ≡ (key, value) ∷ rest
    → text ≡ string_bytes key → b ≡ list_any (λ name. bytes_eq text name.now) names → b ≡ true
    → first_other (names_of names) (members_view all) ≡ first_other (names_of names) (members_view rest)
first_other-passed names all left rest key value text b before step same is some =
    let test : list_any (bytes_eq (string_bytes key)) (names_of names) ≡ true = rw (← same) (among names text b is ∙ some) in
    let here : first_other (names_of names) (members_view ((key, value) ∷ rest)) ≡ first_other (names_of names) (members_view rest) = rw test in
    before ∙ ap (λ es. first_other (names_of names) (members_view es)) step ∙ here

-- a map's keys rise
pub keys_rise-view : (entries : List Entry) → IsStrictlySortedBy string_cmp (keys_of entries) → keys_rise (members_view entries) ≡ true
unfolding IsStrictlySortedBy
keys_rise-view [] h = refl
keys_rise-view (e ∷ es) h = rw (is_before-sorted e.0 es h.0) (keys_rise-view es h.1)
