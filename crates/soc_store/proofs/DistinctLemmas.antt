-- The distinct values of rows: they rise, each row's is among them, and those of some of the rows are among those of all.
use Rattle.std.proofs.Common.{◌≡◌, ◌<◌, ◌⊎◌, inl, inr, ⊎_elim, ℕ, zero, suc, Bool, true, false, cond, List, [], ◌∷◌, Option, None, Some, length, ap, sym, subst, ◌∙◌, refl, arith}
use Rattle.std.specs.Prelude.{◌||◌}
use Rattle.std.specs.List.{filter, AllByRecursion, All, Contains}
use Rattle.std.specs.Option.{IfSome}
use Rattle.std.specs.declared.cmp.Ordering.{Ordering}
use Rattle.std.specs.declared.cmp.Ordering.TheVariants.{Less, Equal, Greater}
use Rattle.std.specs.Ordering.{match_ordering, ordering_reverse, is_eq}
use Rattle.std.proofs.lemmas.Bool.{cond_both}
use Rattle.std.proofs.lemmas.Cmp.{tied_itself}
use Rattle.soc_base.proofs.Folk.{equal_from, or_second}
use Rattle.soc_schema.specs.declared.value.Value.{Value}
use Rattle.soc_schema.specs.declared.value.Cell.{Cell}
use Rattle.soc_schema.specs.Rows.{value_of}
use Rattle.soc_schema.specs.Orders.{value_cmp}
use Rattle.soc_schema.specs.Tables.{Rising}
use Rattle.soc_schema.specs.Values.{is_value, values_of, with_distinct}
use Rattle.soc_store.specs.Stored.{some_has}
use Rattle.soc_schema.proofs.OrderLemmas.{value_total, value_exact}
use Rattle.soc_store.proofs.Tables.{rising_alter, alter_commutes}

abbrev pub rise : List Value → Type 0
rise vs = Rising (λ (v : Value). v) value_cmp vs

abbrev one : Value → List Value → List Value
one v vs = with_distinct (Some v) vs

same_test : (v w : Value) → is_value w (Some v) ≡ true → w ≡ v
same_test v w e = value_exact w v (equal_from (value_cmp w v) e)

one_step : (v w : Value) (ws : List Value) (r : Ordering) → value_cmp v w ≡ r → one v (w ∷ ws) ≡ match_ordering r (v ∷ w ∷ ws) (v ∷ ws) (w ∷ one v ws)
one_step v w ws r is = ap (λ q. match_ordering q (v ∷ w ∷ ws) (v ∷ ws) (w ∷ one v ws)) is

-- a value below all goes to the front of those that are kept
front_kept : (q : Value → Bool) (v : Value) (ws : List Value) → AllByRecursion (λ w. value_cmp v w ≡ Less) ws → one v (filter q ws) ≡ v ∷ filter q ws
front_kept q v [] all = refl
front_kept q v (w ∷ ws) all =
    cond_both (q w) (w ∷ filter q ws) (filter q ws) (λ l. one v l ≡ v ∷ l) (λ _. one_step v w (filter q ws) Less all.0) (λ _. front_kept q v ws all.1)

-- and none of them is it
others_kept : (q : Value → Bool) (v : Value) (ws : List Value) → AllByRecursion (λ w. value_cmp v w ≡ Less) ws → filter (λ w. is_value w (Some v) || q w) ws ≡ filter q ws
others_kept q v [] all = refl
others_kept q v (w ∷ ws) all =
    let apart : is_value w (Some v) ≡ false = ap is_eq (value_total.antisymm w v ∙ ap ordering_reverse all.0) in
    ap (λ b. cond (b || q w) (w ∷ filter (λ u. is_value u (Some v) || q u) ws) (filter (λ u. is_value u (Some v) || q u) ws)) apart
    ∙ ap (λ l. cond (q w) (w ∷ l) l) (others_kept q v ws all.1)

all_less : (v w : Value) (ws : List Value) → value_cmp v w ≡ Less → AllByRecursion (λ u. value_cmp w u ≡ Less) ws → AllByRecursion (λ u. value_cmp v u ≡ Less) ws
all_less v w [] less all = tt
all_less v w (u ∷ us) less all = (value_total.trans v w u less all.0, all_less v w us less all.1)

itself : (v : Value) → is_value v (Some v) ≡ true
itself v = ap is_eq (tied_itself value_total v)

-- of the values with one more those are kept that are it or were kept
kept_more : (q : Value → Bool) (v : Value) (ws : List Value) → rise ws → filter (λ w. is_value w (Some v) || q w) (one v ws) ≡ one v (filter q ws)
kept_more q v [] rising = ap (λ b. cond (b || q v) (v ∷ []) []) (itself v)
kept_more q v (w ∷ ws) rising =
    let p = λ (u : Value). is_value u (Some v) || q u in
    elim (value_cmp v w) as (λ r. value_cmp v w ≡ r → filter p (match_ordering r (v ∷ w ∷ ws) (v ∷ ws) (w ∷ one v ws)) ≡ one v (filter q (w ∷ ws))) [
      | Less ↦ λ is.
          let above : AllByRecursion (λ u. value_cmp v u ≡ Less) (w ∷ ws) = (is, all_less v w ws is rising.0) in
          ap (λ b. cond (b || q v) (v ∷ filter p (w ∷ ws)) (filter p (w ∷ ws))) (itself v) ∙ ap (λ l. v ∷ l) (others_kept q v (w ∷ ws) above) ∙ sym (front_kept q v (w ∷ ws) above)
      | Equal ↦ λ is.
          let same : v ≡ w = value_exact v w is in
          let above : AllByRecursion (λ u. value_cmp v u ≡ Less) ws = subst (λ x. AllByRecursion (λ u. value_cmp x u ≡ Less) ws) (sym same) rising.0 in
          ap (λ b. cond (b || q v) (v ∷ filter p ws) (filter p ws)) (itself v) ∙ ap (λ l. v ∷ l) (others_kept q v ws above)
          ∙ cond_both (q w) (w ∷ filter q ws) (filter q ws) (λ l. v ∷ filter q ws ≡ one v l) (λ _. sym (one_step v w (filter q ws) Equal is)) (λ _. sym (front_kept q v ws above))
      | Greater ↦ λ is.
          let apart : is_value w (Some v) ≡ false = ap is_eq (value_total.antisymm w v ∙ ap ordering_reverse is) in
          ap (λ b. cond (b || q w) (w ∷ filter p (one v ws)) (filter p (one v ws))) apart
          ∙ cond_both (q w) (w ∷ filter q ws) (filter q ws) (λ l. cond (q w) (w ∷ filter p (one v ws)) (filter p (one v ws)) ≡ one v l)
          (λ yes. ap (λ b. cond b (w ∷ filter p (one v ws)) (filter p (one v ws))) yes ∙ ap (λ l. w ∷ l) (kept_more q v ws rising.1) ∙ sym (one_step v w (filter q ws) Greater is))
          (λ out. ap (λ b. cond b (w ∷ filter p (one v ws)) (filter p (one v ws))) out ∙ kept_more q v ws rising.1)
    ] refl

-- a value that isn't kept may be there or not
kept_without : (q : Value → Bool) (v : Value) (ws : List Value) → rise ws → q v ≡ false → filter q (one v ws) ≡ filter q ws
kept_without q v [] rising out = ap (λ b. cond b (v ∷ []) []) out
kept_without q v (w ∷ ws) rising out =
    elim (value_cmp v w) as (λ r. value_cmp v w ≡ r → filter q (match_ordering r (v ∷ w ∷ ws) (v ∷ ws) (w ∷ one v ws)) ≡ filter q (w ∷ ws)) [
      | Less ↦ λ is. ap (λ b. cond b (v ∷ filter q (w ∷ ws)) (filter q (w ∷ ws))) out
      | Equal ↦ λ is. ap (λ x. filter q (x ∷ ws)) (value_exact v w is)
      | Greater ↦ λ is. ap (λ l. cond (q w) (w ∷ l) l) (kept_without q v ws rising.1 out)
    ] refl

rise_one : (v : Option Value) (ws : List Value) → rise ws → rise (with_distinct v ws)
rise_one None ws rising = rising
rise_one (Some v) ws rising = rising_alter (λ (w : Value). w) value_total v (λ _. v) (λ _. refl) ws rising

pub rise_values : (f : ℕ) (rows : List (ℕ × List Cell)) → rise (values_of f rows)
rise_values f [] = tt
rise_values f (s ∷ ss) = rise_one (value_of s.1 f) (values_of f ss) (rise_values f ss)

-- a value that stands already changes nothing
one_twice : (v : Value) (ws : List Value) → one v (one v ws) ≡ one v ws
one_twice v [] = one_step v v [] Equal (tied_itself value_total v)
one_twice v (w ∷ ws) =
    elim (value_cmp v w) as (λ r. value_cmp v w ≡ r → one v (match_ordering r (v ∷ w ∷ ws) (v ∷ ws) (w ∷ one v ws)) ≡ match_ordering r (v ∷ w ∷ ws) (v ∷ ws) (w ∷ one v ws)) [
      | Less ↦ λ is. one_step v v (w ∷ ws) Equal (tied_itself value_total v)
      | Equal ↦ λ is. one_step v v ws Equal (tied_itself value_total v)
      | Greater ↦ λ is. one_step v w (one v ws) Greater is ∙ ap (λ l. w ∷ l) (one_twice v ws)
    ] refl

ones_commute : (v : Value) (o : Option Value) (ws : List Value) → one v (with_distinct o ws) ≡ with_distinct o (one v ws)
ones_commute v None ws = refl
ones_commute v (Some w) ws = alter_commutes (λ (u : Value). u) value_total v (λ _. v) (λ _. refl) w (λ _. w) (λ _. refl) (λ tied _. value_exact v w tied) ws

stays_in : (v : Value) (o : Option Value) (ws : List Value) (rest : Bool) → (is_value v o || rest) ≡ true → (rest ≡ true → one v ws ≡ ws) → one v (with_distinct o ws) ≡ with_distinct o ws
stays_in v None ws rest some later = later some
stays_in v (Some w) ws rest some later =
    elim (is_value v (Some w)) as (λ b. is_value v (Some w) ≡ b → (b || rest) ≡ true → one v (one w ws) ≡ one w ws) [
      | true ↦ λ same _. let e : v ≡ w = same_test w v same in ap (λ u. one u (one w ws)) e ∙ one_twice w ws
      | false ↦ λ _ there. ones_commute v (Some w) ws ∙ ap (one w) (later there)
    ] refl some

stays : (f : ℕ) (v : Value) (rows : List (ℕ × List Cell)) → some_has f rows v ≡ true → one v (values_of f rows) ≡ values_of f rows
stays f v [] some = cc
stays f v (s ∷ ss) some = stays_in v (value_of s.1 f) (values_of f ss) (some_has f ss v) some (stays f v ss)

of_all : (test : ℕ × List Cell → Bool) (f : ℕ) (v : Value) (rows : List (ℕ × List Cell)) → some_has f (filter test rows) v ≡ true → some_has f rows v ≡ true
of_all test f v [] some = some
of_all test f v (s ∷ ss) some =
    elim (test s) as (λ t. some_has f (cond t (s ∷ filter test ss) (filter test ss)) v ≡ true → some_has f (s ∷ ss) v ≡ true) [
      | true ↦ λ h. elim (is_value v (value_of s.1 f)) as (λ b. (b || some_has f (filter test ss) v) ≡ true → (b || some_has f ss v) ≡ true) [ true ↦ λ _. refl | false ↦ λ g. of_all test f v ss g ] h
      | false ↦ λ h. or_second (is_value v (value_of s.1 f)) (some_has f ss v) (of_all test f v ss h)
    ] some

step_in : (q : Value → Bool) (o : Option Value) (vs : List Value) → rise vs → with_distinct o (filter q vs) ≡ filter (λ w. is_value w o || q w) (with_distinct o vs)
step_in q None vs rising = refl
step_in q (Some v) vs rising = sym (kept_more q v vs rising)

step_out : (q : Value → Bool) (o : Option Value) (vs : List Value) → rise vs → ((v : Value) → q v ≡ true → one v vs ≡ vs) → filter q vs ≡ filter q (with_distinct o vs)
step_out q None vs rising there = refl
step_out q (Some v) vs rising there =
    elim (q v) as (λ b. q v ≡ b → filter q vs ≡ filter q (one v vs)) [
      | true ↦ λ in_it. ap (filter q) (sym (there v in_it))
      | false ↦ λ out. sym (kept_without q v vs rising out)
    ] refl

-- the values of the rows that pass are those of all rows that a row that passes has
pub values_matching : (test : ℕ × List Cell → Bool) (f : ℕ) (rows : List (ℕ × List Cell)) → values_of f (filter test rows) ≡ filter (some_has f (filter test rows)) (values_of f rows)
values_matching test f [] = refl
values_matching test f (s ∷ ss) =
    let rest = values_matching test f ss in
    elim (test s) as (λ t. values_of f (cond t (s ∷ filter test ss) (filter test ss)) ≡ filter (some_has f (cond t (s ∷ filter test ss) (filter test ss))) (with_distinct (value_of s.1 f) (values_of f ss))) [
      | true ↦ ap (with_distinct (value_of s.1 f)) rest ∙ step_in (some_has f (filter test ss)) (value_of s.1 f) (values_of f ss) (rise_values f ss)
      | false ↦ rest ∙ step_out (some_has f (filter test ss)) (value_of s.1 f) (values_of f ss) (rise_values f ss) (λ v some. stays f v ss (of_all test f v ss some))
    ]

-- a value is in a list
abbrev IsIn : Value → List Value → Type 0
IsIn v [] = ⊥
IsIn v (w ∷ ws) = (w ≡ v) ⊎ IsIn v ws

there : (v : Value) (ws : List Value) → IsIn v ws → Contains ws v
there v [] h = absurd h
there v (w ∷ ws) h =
    ⊎_elim (λ (same : w ≡ v). (0, omega arith, same))
    (λ (later : IsIn v ws). let at = there v ws later in let lt : at.0 < length ws = at.1 in (suc at.0, omega arith, at.2))
    h

-- it is among the values with it
first_in : (v : Value) (ws : List Value) → IsIn v (one v ws)
first_in v [] = inl refl
first_in v (w ∷ ws) =
    elim (value_cmp v w) as (λ r. IsIn v (match_ordering r (v ∷ w ∷ ws) (v ∷ ws) (w ∷ one v ws))) [
      | Less ↦ inl refl
      | Equal ↦ inl refl
      | Greater ↦ inr (first_in v ws)
    ]

-- and those that were there still are
still_in : (u v : Value) (ws : List Value) → IsIn u ws → IsIn u (one v ws)
still_in u v [] h = absurd h
still_in u v (w ∷ ws) h =
    elim (value_cmp v w) as (λ r. value_cmp v w ≡ r → IsIn u (match_ordering r (v ∷ w ∷ ws) (v ∷ ws) (w ∷ one v ws))) [
      | Less ↦ λ _. inr h
      | Equal ↦ λ tied. ⊎_elim (λ (same : w ≡ u). inl (value_exact v w tied ∙ same)) (λ (later : IsIn u ws). inr later) h
      | Greater ↦ λ _. ⊎_elim (λ (same : w ≡ u). inl same) (λ (later : IsIn u ws). inr (still_in u v ws later)) h
    ] refl

still_with : (u : Value) (o : Option Value) (ws : List Value) → IsIn u ws → IsIn u (with_distinct o ws)
still_with u None ws h = h
still_with u (Some v) ws h = still_in u v ws h

abbrev HasIn : List Value → Option Value → Type 0
HasIn vs o = IfSome o (λ v. IsIn v vs)

more_in : (o p : Option Value) (vs : List Value) → HasIn vs o → HasIn (with_distinct p vs) o
more_in None p vs h = tt
more_in (Some v) p vs h = still_with v p vs h

own_in : (o : Option Value) (vs : List Value) → HasIn (with_distinct o vs) o
own_in None vs = tt
own_in (Some v) vs = first_in v vs

all_more : (f : ℕ) (p : Option Value) (vs : List Value) (rows : List (ℕ × List Cell)) → AllByRecursion (λ s. HasIn vs (value_of s.1 f)) rows → AllByRecursion (λ s. HasIn (with_distinct p vs) (value_of s.1 f)) rows
all_more f p vs [] all = tt
all_more f p vs (s ∷ ss) all = (more_in (value_of s.1 f) p vs all.0, all_more f p vs ss all.1)

all_in : (f : ℕ) (rows : List (ℕ × List Cell)) → AllByRecursion (λ s. HasIn (values_of f rows) (value_of s.1 f)) rows
all_in f [] = tt
all_in f (s ∷ ss) = (own_in (value_of s.1 f) (values_of f ss), all_more f (value_of s.1 f) (values_of f ss) ss (all_in f ss))

contained : (o : Option Value) (vs : List Value) → HasIn vs o → IfSome o (Contains vs)
contained None vs h = tt
contained (Some v) vs h = there v vs h

each_contained : (f : ℕ) (vs : List Value) (rows : List (ℕ × List Cell)) → AllByRecursion (λ s. HasIn vs (value_of s.1 f)) rows → All (λ s. IfSome (value_of s.1 f) (Contains vs)) rows
each_contained f vs [] all k d lt = absurd (omega arith)
each_contained f vs (s ∷ ss) all zero d lt = contained (value_of s.1 f) vs all.0
each_contained f vs (s ∷ ss) all (suc k) d lt = each_contained f vs ss all.1 k d (omega arith)

-- each row's value is among the distinct ones
pub values_each : (f : ℕ) (rows : List (ℕ × List Cell)) → All (λ s. IfSome (value_of s.1 f) (Contains (values_of f rows))) rows
values_each f rows = each_contained f (values_of f rows) rows (all_in f rows)
