-- Places in order, and one more.
use Rattle.std.proofs.Common.{◌≡◌, ◌≢◌, eqb, subst, ℕ, zero, suc, ◌<◌, ◌≤◌, List, [], ◌∷◌, length, get_or, ltb, ap, sym, ◌∙◌, refl, arith, ⊎_elim}
use Rattle.std.specs.Prelude.{insert, remove}
use Rattle.std.specs.List.{AllByRecursion}
use Rattle.std.proofs.lemmas.Bool.{ltb-true, ltb-false, lt-ltb, le-ltb, cond_both, cases_lt, eq-eqb, ne_eqb, eqb-true}
use Rattle.soc_store.specs.inner.Postings.{PlacesInOrder, with_place, without_place}

all_at : (P : ℕ → Type 0) (ps : List ℕ) (i : ℕ) → AllByRecursion P ps → i < length ps → P (get_or ps i 0)
all_at P [] i all lt = absurd (omega arith)
all_at P (p ∷ ps) zero all lt = all.0
all_at P (p ∷ ps) (suc i) all lt = all_at P ps i all.1 (omega arith)

pub places_rise : (ps : List ℕ) (i j : ℕ) → PlacesInOrder ps → i ≤ j → j < length ps → get_or ps i 0 ≤ get_or ps j 0
places_rise [] i j order le lt = absurd (omega arith)
places_rise (p ∷ ps) zero zero order le lt = omega arith
places_rise (p ∷ ps) zero (suc j) order le lt = all_at (λ q. p ≤ q) ps j order.0 (omega arith)
places_rise (p ∷ ps) (suc i) zero order le lt = absurd (omega arith)
places_rise (p ∷ ps) (suc i) (suc j) order le lt = places_rise ps i j order.1 (omega arith) (omega arith)

-- a place goes behind those that are no greater
pub with_place-insert : (ps : List ℕ) (p i : ℕ) → i ≤ length ps → ((k : ℕ) → k < i → get_or ps k 0 ≤ p) → ((k : ℕ) → i ≤ k → k < length ps → p < get_or ps k 0) → insert ps i p ≡ with_place p ps
with_place-insert [] p zero le below above = refl
with_place-insert [] p (suc i) le below above = absurd (omega arith)
with_place-insert (q ∷ qs) p zero le below above = rw (lt-ltb p q (above 0 (omega arith) (omega arith))) refl
with_place-insert (q ∷ qs) p (suc i) le below above =
    rw (le-ltb p q (below 0 (omega arith)))
    (ap (λ l. q ∷ l) (with_place-insert qs p i (omega arith) (λ k h. below (suc k) (omega arith)) (λ k h h'. above (suc k) (omega arith) (omega arith))))

all_least : (p q : ℕ) (ps : List ℕ) → p ≤ q → AllByRecursion (λ r. q ≤ r) ps → AllByRecursion (λ r. p ≤ r) ps
all_least p q [] le all = tt
all_least p q (r ∷ rs) le all = let first : q ≤ r = all.0 in (omega arith, all_least p q rs le all.1)

all_with : (p q : ℕ) (ps : List ℕ) → q ≤ p → AllByRecursion (λ r. q ≤ r) ps → AllByRecursion (λ r. q ≤ r) (with_place p ps)
all_with p q [] le all = (le, tt)
all_with p q (r ∷ rs) le all =
    cond_both (ltb p r) (p ∷ r ∷ rs) (r ∷ with_place p rs) (AllByRecursion (λ x. q ≤ x)) (λ _. (le, all)) (λ _. (all.0, all_with p q rs le all.1))

pub order-with_place : (p : ℕ) (ps : List ℕ) → PlacesInOrder ps → PlacesInOrder (with_place p ps)
order-with_place p [] order = (tt, tt)
order-with_place p (q ∷ qs) order =
    cond_both (ltb p q) (p ∷ q ∷ qs) (q ∷ with_place p qs) PlacesInOrder
    (λ t. let less : p < q = ltb-true p q t in ((omega arith, all_least p q qs (omega arith) order.0), order))
    (λ f. let least : q ≤ p = ltb-false p q f in (all_with p q qs least order.0, order-with_place p qs order.1))

commute_less : (p q : ℕ) (ps : List ℕ) → p < q → with_place p (with_place q ps) ≡ with_place q (with_place p ps)
commute_less p q [] less = rw (lt-ltb p q less, le-ltb q p (omega arith)) refl
commute_less p q (x ∷ xs) less =
    ⊎_elim
    (λ (h : q < x). rw (lt-ltb q x h, lt-ltb p x (omega arith), lt-ltb p q less, le-ltb q p (omega arith), lt-ltb q x h) refl)
    (λ (h : x ≤ q). ⊎_elim
    (λ (g : p < x). rw (le-ltb q x h, lt-ltb p x g, le-ltb q p (omega arith), le-ltb q x h) refl)
    (λ (g : x ≤ p). rw (le-ltb q x h, le-ltb p x g, le-ltb q x h) (ap (λ l. x ∷ l) (commute_less p q xs less)))
    (cases_lt p x))
    (cases_lt q x)

-- two places may come in either order
pub places_commute : (p q : ℕ) (ps : List ℕ) → with_place p (with_place q ps) ≡ with_place q (with_place p ps)
places_commute p q ps =
    ⊎_elim (λ (less : p < q). commute_less p q ps less)
    (λ (least : q ≤ p). ⊎_elim (λ (less : q < p). sym (commute_less q p ps less)) (λ (le : p ≤ q). let same : p ≡ q = omega arith in rw same refl) (cases_lt q p))
    (cases_lt p q)

-- what was put in is taken out
pub remove-insert : {X : Type 0} (xs : List X) (i : ℕ) (x : X) → i ≤ length xs → remove (insert xs i x) i ≡ xs
remove-insert [] zero x le = refl
remove-insert [] (suc i) x le = absurd (omega arith)
remove-insert (y ∷ ys) zero x le = refl
remove-insert (y ∷ ys) (suc i) x le = ap (λ l. y ∷ l) (remove-insert ys i x (omega arith))

pub placed : (found ps : List ℕ) (p i : ℕ) → found ≡ ps → i ≤ length found → ((k : ℕ) → k < i → get_or found k 0 ≤ p) → ((k : ℕ) → i ≤ k → k < length found → p < get_or found k 0) → insert ps i p ≡ with_place p ps
placed found ps p i same le below above = ap (λ l. insert l i p) (sym same) ∙ with_place-insert found p i le below above ∙ ap (with_place p) same

-- behind the same places a place goes at the front
with_same : (p : ℕ) (ps : List ℕ) → AllByRecursion (λ q. p ≤ q) ps → PlacesInOrder ps → with_place p ps ≡ p ∷ ps
with_same p [] all order = refl
with_same p (q ∷ qs) all order =
    cond_both (ltb p q) (p ∷ q ∷ qs) (q ∷ with_place p qs) (λ l. l ≡ p ∷ q ∷ qs) (λ _. refl)
    (λ f. let least : q ≤ p = ltb-false p q f in let first : p ≤ q = all.0 in let same : q ≡ p = omega arith in
    ap (λ u. u ∷ with_place p qs) same ∙ ap (λ l. p ∷ l) (with_same p qs all.1 order.1 ∙ ap (λ u. u ∷ qs) (sym same)))

-- what was put in is taken out
pub without_place-with_place : (p : ℕ) (ps : List ℕ) → PlacesInOrder ps → without_place p (with_place p ps) ≡ ps
without_place-with_place p [] order = rw (eq-eqb p p refl) refl
without_place-with_place p (q ∷ qs) order =
    cond_both (ltb p q) (p ∷ q ∷ qs) (q ∷ with_place p qs) (λ l. without_place p l ≡ q ∷ qs) (λ _. rw (eq-eqb p p refl) refl)
    (λ _. cond_both (eqb q p) (with_place p qs) (q ∷ without_place p (with_place p qs)) (λ l. l ≡ q ∷ qs)
    (λ t. let same : q ≡ p = eqb-true q p t in with_same p qs (subst (λ u. AllByRecursion (λ r. u ≤ r) qs) same order.0) order.1 ∙ ap (λ u. u ∷ qs) (sym same))
    (λ _. ap (λ l. q ∷ l) (without_place-with_place p qs order.1)))

-- any of the same places may go
any_same : (q : ℕ) (qs : List ℕ) (i : ℕ) → AllByRecursion (λ r. q ≤ r) qs → PlacesInOrder qs → i < length qs → get_or qs i 0 ≡ q → q ∷ remove qs i ≡ qs
any_same q [] i all order lt is = absurd (omega arith)
any_same q (r ∷ rs) zero all order lt is = ap (λ u. u ∷ rs) (sym is)
any_same q (r ∷ rs) (suc i) all order lt is =
    let low : q ≤ r = all.0 in
    let high : r ≤ get_or rs i 0 = all_at (λ u. r ≤ u) rs i order.0 (omega arith) in
    let same : q ≡ r = omega arith in
    ap (λ u. u ∷ r ∷ remove rs i) same ∙ ap (λ l. r ∷ l) (any_same r rs i order.0 order.1 (omega arith) (is ∙ same))

pub without_place-remove : (ps : List ℕ) (p i : ℕ) → PlacesInOrder ps → i < length ps → get_or ps i 0 ≡ p → remove ps i ≡ without_place p ps
without_place-remove [] p i order lt is = absurd (omega arith)
without_place-remove (q ∷ qs) p zero order lt is = rw (eq-eqb q p is) refl
without_place-remove (q ∷ qs) p (suc i) order lt is =
    cond_both (eqb q p) qs (q ∷ without_place p qs) (λ l. q ∷ remove qs i ≡ l)
    (λ t. any_same q qs i order.0 order.1 (omega arith) (is ∙ sym (eqb-true q p t)))
    (λ _. ap (λ l. q ∷ l) (without_place-remove qs p i order.1 (omega arith) is))

pub without_place-none : (ps : List ℕ) (p : ℕ) → ((k : ℕ) → k < length ps → get_or ps k 0 ≢ p) → ps ≡ without_place p ps
without_place-none [] p other = refl
without_place-none (q ∷ qs) p other = rw (ne_eqb q p (other 0 (omega arith))) (ap (λ l. q ∷ l) (without_place-none qs p (λ k h. other (suc k) (omega arith))))

all_left : (P : ℕ → Type 0) (p : ℕ) (ps : List ℕ) → AllByRecursion P ps → AllByRecursion P (without_place p ps)
all_left P p [] all = tt
all_left P p (q ∷ qs) all = cond_both (eqb q p) qs (q ∷ without_place p qs) (AllByRecursion P) (λ _. all.1) (λ _. (all.0, all_left P p qs all.1))

pub order-without_place : (p : ℕ) (ps : List ℕ) → PlacesInOrder ps → PlacesInOrder (without_place p ps)
order-without_place p [] order = tt
order-without_place p (q ∷ qs) order =
    cond_both (eqb q p) qs (q ∷ without_place p qs) PlacesInOrder (λ _. order.1) (λ _. (all_left (λ r. q ≤ r) p qs order.0, order-without_place p qs order.1))

pub some_place : (p : ℕ) (ps : List ℕ) → with_place p ps ≢ []
some_place p [] = λ e. cc
some_place p (q ∷ qs) = cond_both (ltb p q) (p ∷ q ∷ qs) (q ∷ with_place p qs) (λ l. l ≢ []) (λ _ e. cc) (λ _ e. cc)

-- a place that was put in and goes again leaves the places as they were
pub put_back : (ps : List ℕ) (i p : ℕ) → i ≤ length ps → remove (insert ps i p) i ≡ ps
put_back [] zero p le = refl
put_back [] (suc i) p le = absurd (omega arith)
put_back (q ∷ qs) zero p le = refl
put_back (q ∷ qs) (suc i) p le = ap (λ l. q ∷ l) (put_back qs i p (omega arith))
