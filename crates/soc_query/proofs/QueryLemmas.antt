-- Fields put among others, and pairs that are read one after another.
use Rattle.std.proofs.Common.{◌≡◌, ℕ, zero, suc, ◌+◌, ◌<◌, ◌≤◌, List, [], ◌∷◌, ◌++◌, length, take, drop, min, get_or, Some, slice_get, Result, Ok, Err, refl, sym, ap, ◌∙◌, arith, add-one, subst}
use Rattle.std.proofs.lemmas.Bool.{lt-ltb, le-ltb, eq-eqb, ne_eqb}
use Rattle.soc_query.specs.declared.error.QueryError.{QueryError}
use Rattle.soc_query.specs.declared.error.QueryError.TheVariants.{TooManyConditions}
use Rattle.soc_query.specs.Queries.{Asked, IsRefusal, and_then, or_default, with_field, with_pair, with_pairs, within_limit}
use Rattle.soc_query.proofs.ReadingLemmas.{refused_first}

pub field_put : (f : ℕ) (gs : List ℕ) (k : ℕ) → k ≤ length gs → ((j : ℕ) → j < k → get_or gs j 0 < f) → (k < length gs → f < get_or gs k 0) → with_field f gs ≡ take k gs ++ f ∷ drop k gs
field_put f [] zero within below above = refl
field_put f [] (suc k) within below above = absurd (omega arith)
field_put f (g ∷ gs) zero within below above = rw (lt-ltb f g (above (omega arith))) refl
field_put f (g ∷ gs) (suc k) within below above =
    let over : g < f = below 0 (omega arith) in
    rw (le-ltb f g (omega arith)) (rw (ne_eqb f g (λ e. omega arith)) (ap (λ l. g ∷ l) (field_put f gs k (omega arith) (λ j h. below (suc j) (omega arith)) (λ h. above (omega arith)))))

pub field_kept : (f : ℕ) (gs : List ℕ) (k : ℕ) → k < length gs → ((j : ℕ) → j < k → get_or gs j 0 < f) → get_or gs k 0 ≡ f → with_field f gs ≡ gs
field_kept f [] k within below here = absurd (omega arith)
field_kept f (g ∷ gs) zero within below here = rw (le-ltb f g (omega (arith, here))) (rw (eq-eqb f g (sym here)) refl)
field_kept f (g ∷ gs) (suc k) within below here =
    let over : g < f = below 0 (omega arith) in
    rw (le-ltb f g (omega arith)) (rw (ne_eqb f g (λ e. omega arith)) (ap (λ l. g ∷ l) (field_kept f gs k (omega arith) (λ j h. below (suc j) (omega arith)) here)))

drop_suc : {A : Type 0} (xs : List A) (i : ℕ) (x : A) → slice_get xs i ≡ Some x → drop i xs ≡ x ∷ drop (suc i) xs
drop_suc [] i x h = cc
drop_suc (y ∷ ys) zero x h = let same : y ≡ x = cc in ap (λ z. z ∷ ys) same
drop_suc (y ∷ ys) (suc i) x h = drop_suc ys i x h

pub drop_at : {A : Type 0} (xs : List A) (i : ℕ) (x : A) → slice_get xs i ≡ Some x → drop i xs ≡ x ∷ drop (i + 1) xs
drop_at xs i x h = rw add-one (drop_suc xs i x h)

at_front : {A : Type 0} (xs : List A) (most i : ℕ) → i < most → slice_get (take most xs) i ≡ slice_get xs i
at_front [] zero i h = absurd (omega arith)
at_front [] (suc most) i h = refl
at_front (x ∷ xs) zero i h = absurd (omega arith)
at_front (x ∷ xs) (suc most) zero h = refl
at_front (x ∷ xs) (suc most) (suc i) h = at_front xs most i (omega arith)

front_done : {A : Type 0} (xs : List A) (most i : ℕ) → min (length xs) most ≤ i → drop i (take most xs) ≡ []
front_done [] zero zero h = refl
front_done [] zero (suc i) h = refl
front_done [] (suc most) zero h = refl
front_done [] (suc most) (suc i) h = refl
front_done (x ∷ xs) zero zero h = refl
front_done (x ∷ xs) zero (suc i) h = refl
front_done (x ∷ xs) (suc most) zero h = absurd (omega arith)
front_done (x ∷ xs) (suc most) (suc i) h = front_done xs most i (omega arith)

-- the first pairs that are left behind one that was read
pub pair_read : (q more : Asked) (whole : Result Asked QueryError) (pairs : List (List ℕ × List ℕ)) (most i : ℕ) (name value : List ℕ) → slice_get pairs i ≡ Some (name, value) → i < most → with_pair q name value ≡ Ok more → with_pairs q (drop i (take most pairs)) ≡ whole → with_pairs more (drop (i + 1) (take most pairs)) ≡ whole
pair_read q more whole pairs most i name value here within read left =
    sym (ap (with_pairs q) (drop_at (take most pairs) i (name, value) (at_front pairs most i within ∙ here)) ∙ ap (λ r. and_then r (λ m. with_pairs m (drop (i + 1) (take most pairs)))) read) ∙ left

-- what is refused of a pair is refused of all
pub pair_refused : (q : Asked) (whole : Result Asked QueryError) (f : Asked → Result Asked QueryError) (pairs : List (List ℕ × List ℕ)) (most i : ℕ) (name value : List ℕ) (e : QueryError) → slice_get pairs i ≡ Some (name, value) → i < most → IsRefusal (with_pair q name value) e → with_pairs q (drop i (take most pairs)) ≡ whole → IsRefusal (and_then whole f) e
pair_refused q whole f pairs most i name value e here within refused left =
    let same : and_then (with_pair q name value) (λ m. with_pairs m (drop (i + 1) (take most pairs))) ≡ whole =
    sym (ap (with_pairs q) (drop_at (take most pairs) i (name, value) (at_front pairs most i within ∙ here))) ∙ left in
    refused_first whole f e (subst (λ r. IsRefusal r e) same (refused_first (with_pair q name value) (λ m. with_pairs m (drop (i + 1) (take most pairs))) e refused))

-- no pair is left of the first ones
pub pairs_done : (q : Asked) (whole : Result Asked QueryError) (f : Asked → Result Asked QueryError) (pairs : List (List ℕ × List ℕ)) (most i : ℕ) → min (length pairs) most ≤ i → with_pairs q (drop i (take most pairs)) ≡ whole → and_then whole f ≡ f q
pairs_done q whole f pairs most i none left =
    ap (λ r. and_then r f) (sym left ∙ ap (with_pairs q) (front_done pairs most i none))

pub over_limit : (pairs : List (List ℕ × List ℕ)) (q : Asked) → 128 < length pairs → within_limit pairs q ≡ Err TooManyConditions
over_limit pairs q h = rw (lt-ltb 128 (length pairs) h) refl

pub under_limit : (pairs : List (List ℕ × List ℕ)) (q : Asked) → length pairs ≤ 128 → within_limit pairs q ≡ Ok (record q { columns = or_default q.columns })
under_limit pairs q h = rw (le-ltb 128 (length pairs) h) refl

-- within a list it doesn't matter what stands past its end
pub at_any : (xs : List ℕ) (i d e : ℕ) → i < length xs → get_or xs i d ≡ get_or xs i e
at_any [] i d e h = absurd (omega arith)
at_any (x ∷ xs) zero d e h = refl
at_any (x ∷ xs) (suc i) d e h = at_any xs i d e (omega arith)
