-- Texts of a list's items one after another.
use Rattle.std.proofs.Common.{◌≡◌, ℕ, zero, suc, ◌+◌, ◌<◌, List, [], ◌∷◌, ◌++◌, length, take, get_or, sym, ap, ◌∙◌, arith, append-nil, append_assoc, add-one}
use Rattle.std.specs.List.{flat_map}

flat_suc : {A : Type 0} (text : A → List ℕ) (xs : List A) (i : ℕ) (x : A) → i < length xs → get_or xs i x ≡ x → flat_map text (take (suc i) xs) ≡ flat_map text (take i xs) ++ text x
flat_suc text [] i x within here = absurd (omega arith)
flat_suc text (y ∷ ys) zero x within here = append-nil (text y) ∙ ap text here
flat_suc text (y ∷ ys) (suc i) x within here =
    ap (λ l. text y ++ l) (flat_suc text ys i x (omega arith) here) ∙ sym (append_assoc (text y) (flat_map text (take i ys)) (text x))

-- one more item of a list
pub flat_step : {A : Type 0} (text : A → List ℕ) (xs : List A) (i : ℕ) (x : A) (front done now : List ℕ) → i < length xs → get_or xs i x ≡ x → done ≡ front ++ flat_map text (take i xs) → now ≡ done ++ text x → now ≡ front ++ flat_map text (take (i + 1) xs)
flat_step text xs i x front done now within here so_far put =
    put ∙ ap (λ l. l ++ text x) so_far ∙ append_assoc front (flat_map text (take i xs)) (text x)
    ∙ ap (λ l. front ++ l) (sym (ap (λ n. flat_map text (take n xs)) (add-one i) ∙ flat_suc text xs i x within here))

-- a piece, and then what else is written
pub then : (old piece rest between now : List ℕ) → between ≡ old ++ piece → now ≡ between ++ rest → now ≡ old ++ (piece ++ rest)
then old piece rest between now first more = more ∙ ap (λ l. l ++ rest) first ∙ append_assoc old piece rest

-- the whole of what is written, where nothing stood before
pub whole : (old text now : List ℕ) → old ≡ [] → now ≡ old ++ text → now ≡ text
whole old text now empty more = more ∙ ap (λ l. l ++ text) empty

-- the same texts of the same items
pub of_same : {A B : Type 0} (text : A → B → List ℕ) (a a' : A) (xs xs' : List B) (front now : List ℕ) → a ≡ a' → xs ≡ xs' → now ≡ front ++ flat_map (text a) xs → now ≡ front ++ flat_map (text a') xs'
of_same text a a' xs xs' front now p q written =
    written ∙ ap (λ z. front ++ flat_map (text z) xs) p ∙ ap (λ l. front ++ flat_map (text a') l) q
