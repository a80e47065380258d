-- A row's values, one after another.
use Rattle.std.proofs.Common.{◌≡◌, ◌≢◌, ℕ, zero, suc, ◌+◌, ◌-◌, ◌<◌, ◌≤◌, List, [], ◌∷◌, Option, None, Some, cond, eqb, length, get_or, set, take, drop, ap, sym, subst, ◌∙◌, refl, arith, ⊎_elim, length-drop}
use Rattle.std.specs.Prelude.{slice_get}
use Rattle.std.proofs.lemmas.Bool.{eq-eqb, ne_eqb, cases_eq, cases_lt}
use Rattle.std.proofs.lemmas.List.{get_or-set_same, get_or-set_other, get_or_default}
use Rattle.soc_schema.specs.declared.value.Value.{Value}
use Rattle.soc_schema.specs.declared.value.Cell.{Cell}
use Rattle.soc_schema.specs.Rows.{value_of, cell, RisesFrom, IsRow}
use Rattle.soc_store.specs.inner.Postings.{Posting}

-- a row's next cell, and what is left behind it
pub next_cell : (row : List Cell) (i : ℕ) (s t : List Cell) (c : Cell) → s ≡ drop i row → s ≡ c ∷ t → (slice_get row i ≡ Some c) × (t ≡ drop (i + 1) row)
next_cell row i s t c left begins = let one : i + 1 ≡ suc i = omega arith in rw one (from_cell row i t c (sym left ∙ begins))
  where
    from_cell : (row : List Cell) (i : ℕ) (t : List Cell) (c : Cell) → drop i row ≡ c ∷ t → (slice_get row i ≡ Some c) × (t ≡ drop (suc i) row)
    from_cell [] zero t c is = cc
    from_cell [] (suc i) t c is = cc
    from_cell (d ∷ ds) zero t c is = let same : d ≡ c = cc in let rest : ds ≡ t = cc in (ap Some same, sym rest)
    from_cell (d ∷ ds) (suc i) t c is = from_cell ds i t c is

-- where no cell is left, all were taken
pub all_taken : (row : List Cell) (i : ℕ) (s : List Cell) → s ≡ drop i row → s ≡ [] → take i row ≡ row
all_taken row i s left none = whole row i (sym left ∙ none)
  where
    whole : (row : List Cell) (i : ℕ) → drop i row ≡ [] → take i row ≡ row
    whole [] zero is = refl
    whole [] (suc i) is = refl
    whole (d ∷ ds) zero is = cc
    whole (d ∷ ds) (suc i) is = ap (λ l. d ∷ l) (whole ds i is)

-- the loop over the first cells ends behind the last of them
pub none_after : (row : List Cell) (count n : ℕ) (s : List Cell) → count ≤ length row → n ≤ count → s ≡ drop (count - n) row → (0 < n → s ≡ []) → count - n ≡ count
none_after row count n s within few left none =
    ⊎_elim
    (λ (some : 0 < n).
    let end : length s ≡ 0 = ap length (none some) in
    let rest : length s ≡ length (drop (count - n) row) = ap length left in
    absurd (omega (arith, length-drop (count - n) row)))
    (λ (zero : n ≤ 0). omega arith)
    (cases_lt 0 n)

-- the field at i is not below where the row begins
low_at : (low : ℕ) (row : List Cell) (i f : ℕ) (v : Value) → RisesFrom low row → slice_get row i ≡ Some (cell f v) → low ≤ f
low_at low [] i f v rises is = cc
low_at low (c ∷ cs) zero f v rises is =
    let same : c ≡ cell f v = cc in
    let at : c.field ≡ f = ap (λ (d : Cell). d.field) same in
    let least : low ≤ c.field = rises.0 in
    omega arith
low_at low (c ∷ cs) (suc i) f v rises is =
    let later = low_at (c.field + 1) cs i f v rises.2 is in
    let least : low ≤ c.field = rises.0 in
    omega arith

-- its value comes with it
pub value_next : (low : ℕ) (row : List Cell) (i f : ℕ) (v : Value) → RisesFrom low row → slice_get row i ≡ Some (cell f v) → value_of (take (suc i) row) f ≡ Some v
value_next low [] i f v rises is = cc
value_next low (c ∷ cs) zero f v rises is =
    let same : c ≡ cell f v = cc in
    subst (λ (d : Cell). cond (eqb d.field f) (Some d.value) None ≡ Some v) (sym same) (rw (eq-eqb f f refl) refl)
value_next low (c ∷ cs) (suc i) f v rises is =
    let later = low_at (c.field + 1) cs i f v rises.2 is in
    let differs : c.field ≢ f = omega arith in
    rw (ne_eqb c.field f differs) (value_next (c.field + 1) cs i f v rises.2 is)

-- and it had none before
pub value_not_yet : (low : ℕ) (row : List Cell) (i f : ℕ) (v : Value) → RisesFrom low row → slice_get row i ≡ Some (cell f v) → value_of (take i row) f ≡ None
value_not_yet low [] i f v rises is = cc
value_not_yet low (c ∷ cs) zero f v rises is = refl
value_not_yet low (c ∷ cs) (suc i) f v rises is =
    let later = low_at (c.field + 1) cs i f v rises.2 is in
    let differs : c.field ≢ f = omega arith in
    rw (ne_eqb c.field f differs) (value_not_yet (c.field + 1) cs i f v rises.2 is)

-- other fields stay as they were
pub value_other : (row : List Cell) (i f g : ℕ) (v : Value) → slice_get row i ≡ Some (cell f v) → g ≢ f → value_of (take (suc i) row) g ≡ value_of (take i row) g
value_other [] i f g v is other = cc
value_other (c ∷ cs) zero f g v is other =
    let same : c ≡ cell f v = cc in
    let differs : f ≢ g = λ e. other (sym e) in
    subst (λ (d : Cell). cond (eqb d.field g) (Some d.value) None ≡ None) (sym same) (rw (ne_eqb f g differs) refl)
value_other (c ∷ cs) (suc i) f g v is other = ap (cond (eqb c.field g) (Some c.value)) (value_other cs i f g v is other)

-- one more value acts on its field
pub value_step : (act : Option Value → List Posting → List Posting) → ((ts : List Posting) → act None ts ≡ ts) → (row : List Cell) (i f : ℕ) (v : Value) (fs gs : List (List Posting)) (new : List Posting)
    → IsRow row → slice_get row i ≡ Some (cell f v) → f < length fs → ((g : ℕ) → get_or fs g [] ≡ act (value_of (take i row) g) (get_or gs g [])) → new ≡ act (Some v) (get_or fs f [])
    → (g : ℕ) → get_or (set fs f new) g [] ≡ act (value_of (take (suc i) row) g) (get_or gs g [])
value_step act none row i f v fs gs new is_row at lt so_far is g =
    ⊎_elim
    (λ (same : g ≡ f).
    subst (λ u. get_or (set fs f new) u [] ≡ act (value_of (take (suc i) row) u) (get_or gs u [])) (sym same)
    (get_or-set_same fs f new [] lt ∙ is ∙ ap (act (Some v)) (so_far f ∙ ap (λ o. act o (get_or gs f [])) (value_not_yet 0 row i f v is_row at) ∙ none (get_or gs f []))
    ∙ ap (λ o. act o (get_or gs f [])) (sym (value_next 0 row i f v is_row at))))
    (λ (other : g ≢ f). get_or-set_other fs f g new [] other ∙ so_far g ∙ ap (λ o. act o (get_or gs g [])) (sym (value_other row i f g v at other)))
    (cases_eq g f)

-- the same as a loop counts
pub value_step_at : (act : Option Value → List Posting → List Posting) → ((ts : List Posting) → act None ts ≡ ts) → (row : List Cell) (i at f : ℕ) (v : Value) (fs gs : List (List Posting)) (old new : List Posting)
    → IsRow row → slice_get row i ≡ Some (cell f v) → at ≡ f → f < 36 → length fs ≡ 36 → ((g : ℕ) → get_or fs g [] ≡ act (value_of (take i row) g) (get_or gs g [])) → new ≡ act (Some v) (get_or fs at old)
    → (g : ℕ) → get_or (set fs at new) g [] ≡ act (value_of (take (i + 1) row) g) (get_or gs g [])
value_step_at act none row i at f v fs gs old new is_row cell_at same in_table whole so_far new_is g =
    let lt : f < length fs = omega arith in
    let one : i + 1 ≡ suc i = omega arith in
    let there : get_or fs at old ≡ get_or fs f [] = ap (λ u. get_or fs u old) same ∙ get_or_default fs f old [] lt in
    ap (λ u. get_or (set fs u new) g []) same
    ∙ value_step act none row i f v fs gs new is_row cell_at lt so_far (new_is ∙ ap (act (Some v)) there) g
    ∙ ap (λ u. act (value_of (take u row) g) (get_or gs g [])) (sym one)
