-- The orders of values and of rows are total, and values that rise differ.
use Rattle.std.proofs.Common.{◌≡◌, ◌≢◌, ℕ, zero, suc, ◌<◌, ◌≤◌, eqb, Bool, true, false, cond, List, [], ◌∷◌, Option, None, Some, length, get_or, refl, sym, ap, ◌∙◌, arith, ⊎_elim}
use Rattle.std.proofs.lemmas.Bool.{cases_lt, cases_eq, eq-eqb, ne_eqb, le-ltb}
use Rattle.std.specs.Cmp.{IsTotalOrder}
use Rattle.std.specs.Ordering.{nat_cmp, ordering_reverse, ordering_then, is_eq}
use Rattle.std.specs.declared.cmp.Ordering.{Ordering}
use Rattle.std.specs.declared.cmp.Ordering.TheVariants.{Less, Equal, Greater}
use Rattle.std.proofs.lemmas.Cmp.{on_total, then_total, tied_itself}
use Rattle.soc_base.proofs.Folk.{all_get, equal_from}
use Rattle.soc_schema.specs.declared.value.Value.{Value}
use Rattle.soc_schema.specs.Rows.{value_of}
use Rattle.soc_schema.specs.Fields.{uuid_field}
use Rattle.soc_schema.specs.Orders.{value_cmp}
use Rattle.soc_schema.specs.Tables.{Rising}
use Rattle.soc_schema.proofs.OrderLemmas.{value_exact, value_total}
use Rattle.soc_query.specs.declared.part.Sort.{Sort}
use Rattle.soc_query.specs.Answers.{row_order, value_order}

-- values that tie are the same
pub tied_same : (v w : Value) → is_eq (value_cmp v w) ≡ true → v ≡ w
tied_same v w e = value_exact v w (equal_from (value_cmp v w) e)

-- values one way or the other
abbrev way : Bool → Value → Value → Ordering
way falling v w = cond falling (ordering_reverse (value_cmp v w)) (value_cmp v w)

back_back : (r : Ordering) → ordering_reverse (ordering_reverse r) ≡ r
back_back Less = refl
back_back Equal = refl
back_back Greater = refl

less_back : (r : Ordering) → ordering_reverse r ≡ Less → r ≡ Greater
less_back Less e = cc
less_back Equal e = cc
less_back Greater e = refl

equal_back : (r : Ordering) → ordering_reverse r ≡ Equal → r ≡ Equal
equal_back Less e = cc
equal_back Equal e = refl
equal_back Greater e = cc

fall_trans : (x y z : Value) → ordering_reverse (value_cmp x y) ≡ Less → ordering_reverse (value_cmp y z) ≡ Less → ordering_reverse (value_cmp x z) ≡ Less
fall_trans x y z e h =
    sym (value_total.antisymm z x) ∙ value_total.trans z y x (value_total.antisymm z y ∙ h) (value_total.antisymm y x ∙ e)

way_total : (falling : Bool) → IsTotalOrder (way falling)
way_total false = value_total
way_total true = record {
  antisymm = λ x y. ap ordering_reverse (value_total.antisymm x y);
  trans = fall_trans;
  congr = λ x y z e. ap ordering_reverse (value_total.congr x y z (equal_back (value_cmp x y) e));
}

none_anti : (falling : Bool) (a b : Option Value) → value_order falling a b ≡ ordering_reverse (value_order falling b a)
none_anti falling None None = refl
none_anti falling None (Some w) = refl
none_anti falling (Some v) None = refl
none_anti falling (Some v) (Some w) = (way_total falling).antisymm v w

none_trans : (falling : Bool) (a b c : Option Value) → value_order falling a b ≡ Less → value_order falling b c ≡ Less → value_order falling a c ≡ Less
none_trans falling None None c e h = cc
none_trans falling None (Some w) c e h = cc
none_trans falling (Some v) None None e h = cc
none_trans falling (Some v) None (Some u) e h = cc
none_trans falling (Some v) (Some w) None e h = refl
none_trans falling (Some v) (Some w) (Some u) e h = (way_total falling).trans v w u e h

none_congr : (falling : Bool) (a b c : Option Value) → value_order falling a b ≡ Equal → value_order falling a c ≡ value_order falling b c
none_congr falling None None c e = refl
none_congr falling None (Some w) c e = cc
none_congr falling (Some v) None c e = cc
none_congr falling (Some v) (Some w) None e = refl
none_congr falling (Some v) (Some w) (Some u) e = (way_total falling).congr v w u e

pub option_total : (falling : Bool) → IsTotalOrder (value_order falling)
option_total falling = record { antisymm = none_anti falling; trans = none_trans falling; congr = none_congr falling }

pub rows_total : (sorts : List Sort) → IsTotalOrder (row_order sorts)
rows_total [] = on_total (λ row. value_of row uuid_field) (option_total false)
rows_total (s ∷ ss) = then_total (on_total (λ row. value_of row s.field) (option_total s.falling)) (rows_total ss)

-- where the first of two orders decides
pub decided : (r q : Ordering) → (r ≡ Equal → Unit {0}) → is_eq r ≡ false → ordering_then r q ≡ r
decided Less q h e = refl
decided Equal q h e = cc
decided Greater q h e = refl

not_less : (b : Bool) → cond b Equal Greater ≡ Less → ⊥
not_less true e = cc
not_less false e = cc

pub less_from : (a b : ℕ) → nat_cmp a b ≡ Less → a < b
less_from a b e =
    ⊎_elim
    (λ (lt : a < b). lt)
    (λ (le : b ≤ a). absurd (not_less (eqb a b) (sym (ap (λ t. cond t Less (cond (eqb a b) Equal Greater)) (le-ltb a b le)) ∙ e)))
    (cases_lt a b)

rises_at : (vs : List Value) (i j : ℕ) (d : Value) → Rising (λ v. v) value_cmp vs → i < j → j < length vs → value_cmp (get_or vs i d) (get_or vs j d) ≡ Less
rises_at [] i j d rise lt h = absurd (omega arith)
rises_at (v ∷ vs) i zero d rise lt h = absurd (omega arith)
rises_at (v ∷ vs) zero (suc j) d rise lt h = all_get (λ w. value_cmp v w ≡ Less) vs j d rise.0 (omega arith)
rises_at (v ∷ vs) (suc i) (suc j) d rise lt h = rises_at vs i j d rise.1 (omega arith) (omega arith)

apart : (v w : Value) → value_cmp v w ≡ Less → is_eq (value_cmp w v) ≡ false
apart v w e = ap is_eq (value_total.antisymm w v ∙ ap ordering_reverse e)

-- of values that rise two are the same exactly where their indexes are
pub same_index : (vs : List Value) (i j : ℕ) (d : Value) → Rising (λ v. v) value_cmp vs → i < length vs → j < length vs → eqb i j ≡ is_eq (value_cmp (get_or vs i d) (get_or vs j d))
same_index vs i j d rise hi hj =
    ⊎_elim
    (λ (e : i ≡ j). eq-eqb i j e ∙ sym (ap (λ k. is_eq (value_cmp (get_or vs i d) (get_or vs k d))) (sym e) ∙ ap is_eq (tied_itself value_total (get_or vs i d))))
    (λ (ne : i ≢ j). ne_eqb i j ne
    ∙ ⊎_elim
    (λ (lt : i < j). sym (ap is_eq (rises_at vs i j d rise lt hj)))
    (λ (le : j ≤ i). let over : j < i = omega (arith, ne) in sym (apart (get_or vs j d) (get_or vs i d) (rises_at vs j i d rise over hi)))
    (cases_lt i j))
    (cases_eq i j)
