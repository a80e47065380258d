-- Parts of texts.
use Rattle.std.proofs.Common.{◌≡◌, ◌↔◌, ℕ, Bool, true, false, List, [], ◌∷◌, ◌++◌, length, take, drop, refl, sym, ap, ◌∙◌, nat_eq, subst, inl, inr}
use Rattle.std.proofs.lemmas.Bool.{eq-eqb, or_cases, or_left, or_right}
use Rattle.std.proofs.lemmas.List.{take-append-drop}
use Rattle.std.specs.List.{starts_with}
use Rattle.std.specs.Str.Iter.{HasSubslice}
use Rattle.std.specs.Cmp.Lexicographic.{same_text}
use Rattle.soc_query.specs.Answers.{has_part}

-- a text begins with the front of a text
pub starts_front : (x rest : List ℕ) → starts_with nat_eq (x ++ rest) x ≡ true
starts_front [] rest = refl
starts_front (c ∷ x) rest = rw (eq-eqb c c refl) (starts_front x rest)

starts_split : (x bs : List ℕ) → starts_with nat_eq bs x ≡ true → bs ≡ x ++ drop (length x) bs
starts_split x bs h = sym (take-append-drop (length x) bs) ∙ ap (λ l. l ++ drop (length x) bs) (sym (same_text x (take (length x) bs) (sym h)))

part_here : (x bs : List ℕ) → starts_with nat_eq bs x ≡ true → HasSubslice bs x
part_here x bs h = ([], drop (length x) bs, starts_split x bs h)

part_later : (c : ℕ) (x bs : List ℕ) → HasSubslice bs x → HasSubslice (c ∷ bs) x
part_later c x bs h = (c ∷ h.0, h.1, ap (λ l. c ∷ l) h.2)

part_found : (x bs : List ℕ) → has_part x bs ≡ true → HasSubslice bs x
part_found x [] h = part_here x [] h
part_found x (c ∷ bs) h =
    elim (or_cases _ _ h) [ inl here ↦ part_here x (c ∷ bs) here | inr later ↦ part_later c x bs (part_found x bs later) ]

part_there : (x a b : List ℕ) → has_part x (a ++ (x ++ b)) ≡ true
part_there [] [] [] = refl
part_there [] [] (d ∷ b) = refl
part_there (c ∷ x) [] b = or_left _ _ (starts_front (c ∷ x) b)
part_there x (d ∷ a) b = or_right _ _ (part_there x a b)

same_tests : (a b : Bool) → (a ≡ true → b ≡ true) → (b ≡ true → a ≡ true) → a ≡ b
same_tests true b h g = sym (h refl)
same_tests false true h g = let e : false ≡ true = g refl in cc
same_tests false false h g = refl

pub part_is : (r : Bool) (x bs : List ℕ) → (r ≡ true) ↔ HasSubslice bs x → r ≡ has_part x bs
part_is r x bs iff = same_tests r (has_part x bs) (λ e. let there : HasSubslice bs x = iff.0 e in subst (λ l. has_part x l ≡ true) (sym there.2) (part_there x there.0 there.1)) (λ e. iff.1 (part_found x bs e))
