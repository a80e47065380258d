-- Texts with commas between them.
use Rattle.std.proofs.Common.{◌≡◌, ℕ, zero, suc, ◌+◌, ◌<◌, List, [], ◌∷◌, ◌++◌, length, take, get_or, sym, ap, ◌∙◌, arith, append-nil, append_assoc, add-one}
use Rattle.std.specs.Prelude.{codes, if◌then◌else◌}
use Rattle.std.proofs.lemmas.Bool.{lt-ltb}
use Rattle.soc_schema.specs.Commas.{after_commas, comma_after, joined}

after_more : {A : Type 0} (text : A → List ℕ) (xs : List A) (i : ℕ) (x : A) → i < length xs → get_or xs i x ≡ x → after_commas text (take (suc i) xs) ≡ after_commas text (take i xs) ++ (codes "," ++ text x)
after_more text [] i x within here = absurd (omega arith)
after_more text (y ∷ ys) zero x within here = append-nil (codes "," ++ text y) ∙ ap (λ z. codes "," ++ text z) here
after_more text (y ∷ ys) (suc i) x within here =
    ap (λ l. (codes "," ++ text y) ++ l) (after_more text ys i x (omega arith) here) ∙ sym (append_assoc (codes "," ++ text y) (after_commas text (take i ys)) (codes "," ++ text x))

joined_suc : {A : Type 0} (text : A → List ℕ) (xs : List A) (i : ℕ) (x : A) → i < length xs → get_or xs i x ≡ x → joined text (take (suc i) xs) ≡ (joined text (take i xs) ++ comma_after i) ++ text x
joined_suc text [] i x within here = absurd (omega arith)
joined_suc text (y ∷ ys) zero x within here = append-nil (text y) ∙ ap text here
joined_suc text (y ∷ ys) (suc i) x within here =
    ap (λ l. text y ++ l) (after_more text ys i x (omega arith) here) ∙ sym (append_assoc (text y) (after_commas text (take i ys)) (codes "," ++ text x))
    ∙ sym (append_assoc (text y ++ after_commas text (take i ys)) (codes ",") (text x))
    ∙ ap (λ b. ((text y ++ after_commas text (take i ys)) ++ (if b then codes "," else [])) ++ text x) (sym (lt-ltb 0 (suc i) (omega arith)))

joined_more : {A : Type 0} (text : A → List ℕ) (xs : List A) (i : ℕ) (x : A) → i < length xs → get_or xs i x ≡ x → joined text (take (i + 1) xs) ≡ (joined text (take i xs) ++ comma_after i) ++ text x
joined_more text xs i x within here = ap (λ n. joined text (take n xs)) (add-one i) ∙ joined_suc text xs i x within here

-- one more text of a list, with the comma before it
pub joined_step : {A : Type 0} (text : A → List ℕ) (xs : List A) (i : ℕ) (x : A) (front done comma now : List ℕ) → i < length xs → get_or xs i x ≡ x → done ≡ front ++ joined text (take i xs) → comma ≡ done ++ comma_after i → now ≡ comma ++ text x → now ≡ front ++ joined text (take (i + 1) xs)
joined_step text xs i x front done comma now within here so_far between put =
    put ∙ ap (λ l. l ++ text x) (between ∙ ap (λ l. l ++ comma_after i) so_far ∙ append_assoc front (joined text (take i xs)) (comma_after i))
    ∙ append_assoc front (joined text (take i xs) ++ comma_after i) (text x) ∙ ap (λ l. front ++ l) (sym (joined_more text xs i x within here))
