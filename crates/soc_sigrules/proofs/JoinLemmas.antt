-- Texts with a separator between them, one text more.
use Rattle.std.proofs.Common.{◌≡◌, ℕ, ◌+◌, ◌<◌, List, [], ◌∷◌, ◌++◌, length, take, get_or, Some, refl, sym, ap, ◌∙◌, arith, append_assoc, append-nil}
use Rattle.std.specs.Prelude.{slice_get}
use Rattle.std.specs.List.{flat_map}
use Rattle.std.proofs.lemmas.List.{take_more, length-take-le}
use Rattle.std.proofs.lemmas.List.Concat.{flat_map-append}
use Rattle.std.proofs.lemmas.Option.{get_or_from_slice_get, slice_get_within}
use Rattle.soc_sigrules.specs.Chars.{joined}

-- what stands before one more text
abbrev separator_before : List ℕ → List (List ℕ) → List ℕ
separator_before separator [] = []
separator_before separator (_ ∷ _) = separator

pub joined-push : (separator : List ℕ) (texts : List (List ℕ)) (text : List ℕ)
    → joined separator (texts ++ text ∷ []) ≡ (joined separator texts ++ separator_before separator texts) ++ text
joined-push separator [] text = append-nil text
joined-push separator (first ∷ texts) text =
    let behind = λ (other : List ℕ). separator ++ other in
    ap (λ (xs : List ℕ). first ++ xs) (flat_map-append behind texts (text ∷ []) ∙ ap (λ (xs : List ℕ). flat_map behind texts ++ xs) (append-nil (separator ++ text)))
    ∙ sym (append_assoc first (flat_map behind texts) (separator ++ text))
    ∙ sym (append_assoc (first ++ flat_map behind texts) separator text)

-- one text more is behind those that were taken
more : (separator : List ℕ) (texts : List (List ℕ)) (place : ℕ) (text : List ℕ) → slice_get texts place ≡ Some text
    → joined separator (take (place + 1) texts) ≡ (joined separator (take place texts) ++ separator_before separator (take place texts)) ++ text
more separator texts place text there =
    let inside = slice_get_within texts place text there in
    let same : get_or texts place text ≡ text = get_or_from_slice_get texts place text text there in
    ap (joined separator) (take_more texts place text inside ∙ ap (λ (t : List ℕ). take place texts ++ t ∷ []) same)
    ∙ joined-push separator (take place texts) text

before_later : (separator : List ℕ) (texts : List (List ℕ)) → 0 < length texts → separator_before separator texts ≡ separator
before_later separator [] some = absurd (omega arith)
before_later separator (_ ∷ _) some = refl

pub joined-later : (separator out new : List ℕ) (texts : List (List ℕ)) (place : ℕ) (text : List ℕ) → slice_get texts place ≡ Some text → 0 < place
    → out ≡ joined separator (take place texts) → new ≡ (out ++ separator) ++ text → new ≡ joined separator (take (place + 1) texts)
joined-later separator out new texts place text there later held is =
    let inside = slice_get_within texts place text there in
    let taken : length (take place texts) ≡ place = length-take-le place texts (omega arith) in
    is ∙ ap (λ (xs : List ℕ). (xs ++ separator) ++ text) held
    ∙ ap (λ (xs : List ℕ). (joined separator (take place texts) ++ xs) ++ text) (sym (before_later separator (take place texts) (omega arith)))
    ∙ sym (more separator texts place text there)

pub joined-first : (separator out new : List ℕ) (texts : List (List ℕ)) (place : ℕ) (text : List ℕ) → slice_get texts place ≡ Some text → place ≡ 0
    → out ≡ joined separator (take place texts) → new ≡ out ++ text → new ≡ joined separator (take (place + 1) texts)
joined-first separator out new texts place text there first held is =
    let none : take place texts ≡ [] = ap (λ n. take n texts) first in
    let empty : separator_before separator (take place texts) ≡ [] = ap (separator_before separator) none in
    is ∙ ap (λ (xs : List ℕ). xs ++ text) (held ∙ sym (append-nil (joined separator (take place texts))))
    ∙ ap (λ (xs : List ℕ). (joined separator (take place texts) ++ xs) ++ text) (sym empty)
    ∙ sym (more separator texts place text there)

pub push_first : (separator : List ℕ) (texts : List (List ℕ)) (text : List ℕ) → length texts ≡ 0 → joined separator (texts ++ text ∷ []) ≡ joined separator texts ++ text
push_first separator [] text none = append-nil text
push_first separator (first ∷ texts) text none = absurd (omega arith)

pub push_later : (separator : List ℕ) (texts : List (List ℕ)) (text : List ℕ) → 0 < length texts
    → joined separator (texts ++ text ∷ []) ≡ (joined separator texts ++ separator) ++ text
push_later separator texts text some =
    joined-push separator texts text ∙ ap (λ (xs : List ℕ). (joined separator texts ++ xs) ++ text) (before_later separator texts some)
