-- Lines that are pushed one after another.
use Rattle.std.proofs.Common.{◌≡◌, ℕ, suc, ◌+◌, ◌<◌, ◌≤◌, List, [], ◌∷◌, ◌++◌, length, map, drop, get_or, refl, sym, ap, ◌∙◌, append_assoc, append-nil, add-one, drop-cons}
use Rattle.soc_base.proofs.Folk.{drop_past}
use Rattle.soc_query.specs.declared.answer.Term.{Term}
use Rattle.soc_serve.specs.Storm.{term_line, term_lines}

pub next_left : {B : Type 0} (bs : List B) (i : ℕ) (b : B) → i < length bs → b ≡ get_or bs i b → drop i bs ≡ b ∷ drop (i + 1) bs
next_left bs i b within is = rw (add-one, drop-cons bs i b) (ap (λ y. y ∷ drop (suc i) bs) (sym is))

pub line_more : {B : Type 0} (f : B → Term) (text text' whole : List ℕ) (bs : List B) (i : ℕ) (b : B) → i < length bs → b ≡ get_or bs i b → text' ≡ text ++ term_line (f b)
    → text ++ term_lines (map f (drop i bs)) ≡ whole → text' ++ term_lines (map f (drop (i + 1) bs)) ≡ whole
line_more f text text' whole bs i b within is grown left =
    ap (λ t. t ++ term_lines (map f (drop (i + 1) bs))) grown
    ∙ (append_assoc text (term_line (f b)) (term_lines (map f (drop (i + 1) bs)))
    ∙ (ap (λ l. text ++ term_lines (map f l)) (sym (next_left bs i b within is)) ∙ left))

map_end : {A B : Type 0} (f : B → A) (bs : List B) (b : B) → map f (bs ++ b ∷ []) ≡ map f bs ++ f b ∷ []
map_end f [] b = refl
map_end f (c ∷ cs) b = ap (λ l. f c ∷ l) (map_end f cs b)

pub listed_more : {A B : Type 0} (f : B → A) (bs bs' : List B) (xs : List A) (i : ℕ) (b : B) → i < length xs → f b ≡ get_or xs i (f b) → bs' ≡ bs ++ b ∷ []
    → map f bs ++ drop i xs ≡ xs → map f bs' ++ drop (i + 1) xs ≡ xs
listed_more f bs bs' xs i b within is grown left =
    ap (λ l. map f l ++ drop (i + 1) xs) grown
    ∙ (ap (λ l. l ++ drop (i + 1) xs) (map_end f bs b)
    ∙ (append_assoc (map f bs) (f b ∷ []) (drop (i + 1) xs)
    ∙ (ap (λ l. map f bs ++ l) (sym (next_left xs i (f b) within is)) ∙ left)))

pub lines_over : {B : Type 0} (f : B → Term) (text whole : List ℕ) (bs : List B) (i : ℕ) → length bs ≤ i → text ++ term_lines (map f (drop i bs)) ≡ whole → text ≡ whole
lines_over f text whole bs i past left = sym (append-nil text) ∙ (ap (λ l. text ++ term_lines (map f l)) (sym (drop_past bs i past)) ∙ left)

pub listed_over : {A B : Type 0} (f : B → A) (bs : List B) (xs : List A) (i : ℕ) → length xs ≤ i → map f bs ++ drop i xs ≡ xs → map f bs ≡ xs
listed_over f bs xs i past left = sym (append-nil (map f bs)) ∙ (ap (λ l. map f bs ++ l) (sym (drop_past xs i past)) ∙ left)
