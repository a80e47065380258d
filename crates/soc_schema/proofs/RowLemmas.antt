-- What holds of the cells of a row, and of a row with one more value.
use Rattle.std.proofs.Common.{◌≡◌, ◌≢◌, ℕ, zero, suc, ◌+◌, ◌<◌, ◌≤◌, cond, List, [], ◌∷◌, length, get_or, set, None, Some, refl, sym, ap, ◌∙◌, subst, arith, eqb, ltb, ⊎_elim}
use Rattle.std.specs.List.{insert}
use Rattle.std.proofs.lemmas.Bool.{ltb-true, ltb-false, lt-ltb, le-ltb, eq-eqb, ne_eqb, eqb-true, eqb-false, cond_both, cases_eq, cases_lt}
use Rattle.soc_schema.specs.declared.value.Value.{Value}
use Rattle.soc_schema.specs.declared.value.Cell.{Cell}
use Rattle.soc_schema.specs.Rows.{IsCell, RisesFrom, IsRow, kind_of_value, value_of, with_value, cell}
use Rattle.soc_schema.specs.inner.Places.{HasFieldAt, LacksFieldAt, fields}
use Rattle.soc_schema.specs.Fields.{IsField, kind_of}

-- no field of a row stands below where it begins
pub RisesFrom-low : (low : ℕ) (cells : List Cell) (k : ℕ) → RisesFrom low cells → k < length cells → low ≤ get_or (fields cells) k 0
RisesFrom-low low [] k h within = absurd (omega arith)
RisesFrom-low low (c ∷ cs) zero h within = h.0
RisesFrom-low low (c ∷ cs) (suc k) h within =
    let later : c.field + 1 ≤ get_or (fields cs) k 0 = RisesFrom-low (c.field + 1) cs k h.2 (omega arith) in
    let first : low ≤ c.field = h.0 in
    omega arith

-- a later field is greater
pub RisesFrom-rises : (low : ℕ) (cells : List Cell) (i j : ℕ) → RisesFrom low cells → i < j → j < length cells → get_or (fields cells) i 0 < get_or (fields cells) j 0
RisesFrom-rises low [] i j h less within = absurd (omega arith)
RisesFrom-rises low (c ∷ cs) i zero h less within = absurd (omega arith)
RisesFrom-rises low (c ∷ cs) zero (suc j) h less within =
    let later : c.field + 1 ≤ get_or (fields cs) j 0 = RisesFrom-low (c.field + 1) cs j h.2 (omega arith) in
    omega arith
RisesFrom-rises low (c ∷ cs) (suc i) (suc j) h less within =
    RisesFrom-rises (c.field + 1) cs i j h.2 (omega arith) (omega arith)

-- a row with one more value is a row
pub RisesFrom-with_value : (low : ℕ) (cells : List Cell) (f : ℕ) (v : Value) → RisesFrom low cells → low ≤ f → IsCell (cell f v) → RisesFrom low (with_value cells f v)
RisesFrom-with_value low [] f v h above good = (above, good, tt)
RisesFrom-with_value low (c ∷ cs) f v h above good =
    let first : low ≤ c.field = h.0 in
    cond_both (ltb c.field f) _ _ (RisesFrom low) (λ less. let below : c.field < f = ltb-true c.field f less in (first, h.1, RisesFrom-with_value (c.field + 1) cs f v h.2 (omega arith) good)) (λ not_less. let reaches : f ≤ c.field = ltb-false c.field f not_less in cond_both (eqb c.field f) _ _ (RisesFrom low) (λ same. (above, good, subst (λ n. RisesFrom (n + 1) cs) (eqb-true c.field f same) h.2)) (λ other. let differs : c.field ≢ f = eqb-false c.field f other in let later : f + 1 ≤ c.field = omega arith in (above, good, (later, h.1, h.2))))

-- where the field has a value, it is replaced
pub with_value-set : (cells : List Cell) (p f : ℕ) (v : Value) → p < length cells → ((k : ℕ) → k < p → get_or (fields cells) k 0 < f) → get_or (fields cells) p 0 ≡ f → set cells p (cell f v) ≡ with_value cells f v
with_value-set [] p f v within below here = absurd (omega arith)
with_value-set (c ∷ cs) zero f v within below here =
    let same : c.field ≡ f = here in
    rw (le-ltb c.field f (omega arith), eq-eqb c.field f same) refl
with_value-set (c ∷ cs) (suc p) f v within below here =
    rw (lt-ltb c.field f (below 0 (omega arith))) (ap (λ l. c ∷ l) (with_value-set cs p f v (omega arith) (λ k h. below (suc k) (omega arith)) here))

-- where it has none, the value is put in its place
pub with_value-insert : (cells : List Cell) (p f : ℕ) (v : Value) → p ≤ length cells → ((k : ℕ) → k < p → get_or (fields cells) k 0 < f) → (p < length cells → f < get_or (fields cells) p 0) → insert cells p (cell f v) ≡ with_value cells f v
with_value-insert [] zero f v within below after = refl
with_value-insert [] (suc p) f v within below after = absurd (omega arith)
with_value-insert (c ∷ cs) zero f v within below after =
    let greater : f < c.field = after (omega arith) in
    let differs : c.field ≢ f = omega arith in
    rw (le-ltb c.field f (omega arith), ne_eqb c.field f differs) refl
with_value-insert (c ∷ cs) (suc p) f v within below after =
    rw (lt-ltb c.field f (below 0 (omega arith))) (ap (λ l. c ∷ l) (with_value-insert cs p f v (omega arith) (λ k h. below (suc k) (omega arith)) (λ h. after (omega arith))))

-- the value at the field's place, and none where the field has no place
pub value_of-found : (cells : List Cell) (p f : ℕ) (d : Cell) → p < length cells → ((k : ℕ) → k < p → get_or (fields cells) k 0 < f) → get_or (fields cells) p 0 ≡ f → value_of cells f ≡ Some (get_or cells p d).value
value_of-found [] p f d within below here = absurd (omega arith)
value_of-found (c ∷ cs) zero f d within below here = rw (eq-eqb c.field f here) refl
value_of-found (c ∷ cs) (suc p) f d within below here =
    let less : c.field < f = below 0 (omega arith) in
    let differs : c.field ≢ f = omega arith in
    rw (ne_eqb c.field f differs) (value_of-found cs p f d (omega arith) (λ k h. below (suc k) (omega arith)) here)

pub value_of-absent : (cells : List Cell) (f : ℕ) → ((k : ℕ) → k < length cells → get_or (fields cells) k 0 ≢ f) → value_of cells f ≡ None
value_of-absent [] f all = refl
value_of-absent (c ∷ cs) f all =
    rw (ne_eqb c.field f (all 0 (omega arith))) (value_of-absent cs f (λ k h. all (suc k) (omega arith)))

-- what one place tells of those before it and after it
pub places_below : (low : ℕ) (cells : List Cell) (f middle : ℕ) → RisesFrom low cells → middle < length cells → get_or (fields cells) middle 0 < f → (k : ℕ) → k < middle + 1 → get_or (fields cells) k 0 < f
places_below low cells f middle h within less k before =
    ⊎_elim (λ same. subst (λ n. get_or (fields cells) n 0 < f) (sym same) less) (λ differs. let here : k < middle = omega arith in let rises : get_or (fields cells) k 0 < get_or (fields cells) middle 0 = RisesFrom-rises low cells k middle h here within in omega arith) (cases_eq k middle)

pub places_above : (low : ℕ) (cells : List Cell) (f middle : ℕ) → RisesFrom low cells → f ≤ get_or (fields cells) middle 0 → (k : ℕ) → middle ≤ k → k < length cells → f ≤ get_or (fields cells) k 0
places_above low cells f middle h reaches k after within =
    ⊎_elim (λ same. subst (λ n. f ≤ get_or (fields cells) n 0) (sym same) reaches) (λ differs. let here : middle < k = omega arith in let rises : get_or (fields cells) middle 0 < get_or (fields cells) k 0 = RisesFrom-rises low cells middle k h here within in omega arith) (cases_eq k middle)

pub LacksFieldAt-from_next : (cells : List Cell) (f p : ℕ) → IsRow cells → p < length cells → ((k : ℕ) → k < p → get_or (fields cells) k 0 < f) → f ≤ get_or (fields cells) p 0 → get_or (fields cells) p 0 ≢ f → LacksFieldAt cells f p
LacksFieldAt-from_next cells f p h inside below reaches differs =
    let greater : f + 1 ≤ get_or (fields cells) p 0 = omega arith in
    record { within = omega arith; below = below; above = λ k after inside_k. let more : f + 1 ≤ get_or (fields cells) k 0 = places_above 0 cells (f + 1) p h greater k after inside_k in omega arith }

-- what `get` gives
pub value_of-read : (cells items now : List Cell) (f p : ℕ) (x : Cell) → HasFieldAt cells f p → cells ≡ items → items ≡ now → x ≡ get_or items p x → Some x.value ≡ value_of now f
value_of-read cells items now f p x h e1 e2 read =
    ap (λ (y : Cell). Some y.value) (read ∙ ap (λ l. get_or l p x) (sym e1)) ∙ (sym (value_of-found cells p f x h.within h.below h.here) ∙ ap (λ l. value_of l f) (e1 ∙ e2))

pub value_of-none : (cells now : List Cell) (f p : ℕ) → LacksFieldAt cells f p → cells ≡ now → None ≡ value_of now f
value_of-none cells now f p h e =
    sym (ap (λ l. value_of l f) (sym e) ∙ value_of-absent cells f (λ k inside same. ⊎_elim (λ before. let less : get_or (fields cells) k 0 < f = h.below k before in absurd (omega arith)) (λ after. let more : f < get_or (fields cells) k 0 = h.above k after inside in absurd (omega arith)) (cases_lt k p)))

-- what `set` leaves
pub set_is_with_value : (cells items : List Cell) (f p : ℕ) (v : Value) → HasFieldAt cells f p → cells ≡ items → set items p (cell f v) ≡ with_value items f v
set_is_with_value cells items f p v h e =
    subst (λ l. set l p (cell f v) ≡ with_value l f v) e (with_value-set cells p f v h.within h.below h.here)

pub insert_is_with_value : (cells items : List Cell) (f p : ℕ) (v : Value) → LacksFieldAt cells f p → cells ≡ items → insert items p (cell f v) ≡ with_value items f v
insert_is_with_value cells items f p v h e =
    subst (λ l. insert l p (cell f v) ≡ with_value l f v) e (with_value-insert cells p f v h.within h.below (λ inside. h.above p (omega arith) inside))

pub IsRow-with_value : (items new : List Cell) (f : ℕ) (v : Value) → new ≡ with_value items f v → IsRow items → IsField f → kind_of_value v ≡ kind_of f → IsRow new
IsRow-with_value items new f v e h in_table of_kind =
    subst IsRow (sym e) (RisesFrom-with_value 0 items f v h (omega arith) (record { in_table = in_table; of_kind = of_kind }))

-- a row with one more value has it, and else what it had
pub value_of-with_value : (cells : List Cell) (f : ℕ) (v : Value) → value_of (with_value cells f v) f ≡ Some v
value_of-with_value [] f v = rw (eq-eqb f f refl) refl
value_of-with_value (c ∷ cs) f v =
    cond_both (ltb c.field f) _ _ (λ l. value_of l f ≡ Some v) (λ less. let before : c.field < f = ltb-true c.field f less in let differs : c.field ≢ f = omega arith in rw (ne_eqb c.field f differs) (value_of-with_value cs f v)) (λ _. cond_both (eqb c.field f) _ _ (λ l. value_of l f ≡ Some v) (λ _. rw (eq-eqb f f refl) refl) (λ _. rw (eq-eqb f f refl) refl))

pub value_of-with_other : (cells : List Cell) (f g : ℕ) (v : Value) → g ≢ f → value_of (with_value cells f v) g ≡ value_of cells g
value_of-with_other [] f g v differs = let d : f ≢ g = λ e. differs (sym e) in rw (ne_eqb f g d) refl
value_of-with_other (c ∷ cs) f g v differs =
    let d : f ≢ g = λ e. differs (sym e) in
    cond_both (ltb c.field f) _ _ (λ l. value_of l g ≡ value_of (c ∷ cs) g) (λ _. ap (λ o. cond (eqb c.field g) (Some c.value) o) (value_of-with_other cs f g v differs)) (λ _. cond_both (eqb c.field f) _ _ (λ l. value_of l g ≡ value_of (c ∷ cs) g) (λ same. let e : c.field ≡ f = eqb-true c.field f same in rw (ne_eqb f g d, ne_eqb c.field g (λ h. d (sym e ∙ h))) refl) (λ _. rw (ne_eqb f g d) refl))
