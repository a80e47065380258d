-- Rows of which as many have each value have the same distinct values.
use Rattle.std.proofs.Common.{◌≡◌, ℕ, suc, ltb, Bool, true, false, cond, List, [], ◌∷◌, None, Some, length, filter, refl, sym, ap, ◌∙◌, arith, subst}
use Rattle.std.specs.Prelude.{◌||◌}
use Rattle.std.proofs.lemmas.Bool.{lt-ltb}
use Rattle.std.specs.List.{AllByRecursion, list_any}
use Rattle.std.specs.Ordering.{is_eq, is_gt, match_ordering}
use Rattle.std.specs.declared.cmp.Ordering.TheVariants.{Less, Equal, Greater}
use Rattle.soc_schema.specs.declared.value.Value.{Value}
use Rattle.soc_schema.specs.declared.value.Cell.{Cell}
use Rattle.soc_schema.specs.Rows.{value_of}
use Rattle.soc_schema.specs.Orders.{value_cmp}
use Rattle.soc_schema.specs.Tables.{Rising, alter}
use Rattle.soc_schema.specs.Values.{is_value, rows_with, values_of, with_distinct}
use Rattle.soc_schema.proofs.OrderLemmas.{value_exact, value_total}
use Rattle.soc_store.specs.Stored.{some_has}
use Rattle.soc_store.proofs.DistinctLemmas.{rise_values}
use Rattle.soc_search.proofs.OrderLemmas.{tied_same}
use Rattle.soc_search.proofs.SortLemmas.{Up, unique}

-- a row has the value exactly where some are counted
pub counted_has : (f : ℕ) (v : Value) (rows : List (ℕ × List Cell)) → some_has f rows v ≡ ltb 0 (length (rows_with f v rows))
counted_has f v [] = refl
counted_has f v (s ∷ ss) =
    elim (is_value v (value_of s.1 f)) as (λ b. (b || some_has f ss v) ≡ ltb 0 (length (cond b (s ∷ rows_with f v ss) (rows_with f v ss)))) [
      | true ↦ sym (lt-ltb 0 (suc (length (rows_with f v ss))) (omega arith))
      | false ↦ counted_has f v ss
    ]

-- the distinct values that rows have, by which of them a row has
abbrev has_one : Value → List Value → Bool
has_one u vs = list_any (λ w. is_eq (value_cmp u w)) vs

twice : (a b c : Bool) → a ≡ b → (a || c) ≡ (a || (b || c))
twice true b c e = refl
twice false true c e = cc
twice false false c e = refl

swapped : (a b c : Bool) → (a || (b || c)) ≡ (b || (a || c))
swapped true true c = refl
swapped true false c = refl
swapped false true c = refl
swapped false false c = refl

has_put : (u v : Value) (vs : List Value) → has_one u (alter (λ w. w) value_cmp v (λ _. v) vs) ≡ (is_eq (value_cmp u v) || has_one u vs)
has_put u v [] = refl
has_put u v (w ∷ ws) =
    elim (value_cmp v w) as (λ r. value_cmp v w ≡ r → has_one u (match_ordering r (v ∷ w ∷ ws) (v ∷ ws) (w ∷ alter (λ x. x) value_cmp v (λ _. v) ws)) ≡ (is_eq (value_cmp u v) || (is_eq (value_cmp u w) || has_one u ws))) [
      | Less ↦ λ _. refl
      | Equal ↦ λ tied. twice (is_eq (value_cmp u v)) (is_eq (value_cmp u w)) (has_one u ws) (ap (λ x. is_eq (value_cmp u x)) (value_exact v w tied))
      | Greater ↦ λ _. ap (λ b. is_eq (value_cmp u w) || b) (has_put u v ws) ∙ swapped (is_eq (value_cmp u w)) (is_eq (value_cmp u v)) (has_one u ws)
    ] refl

has_values : (u : Value) (f : ℕ) (rows : List (ℕ × List Cell)) → has_one u (values_of f rows) ≡ some_has f rows u
has_values u f [] = refl
has_values u f (s ∷ ss) =
    elim (value_of s.1 f) as (λ o. has_one u (with_distinct o (values_of f ss)) ≡ (is_value u o || some_has f ss u)) [
      | None ↦ has_values u f ss
      | Some v ↦ has_put u v (values_of f ss) ∙ ap (λ b. is_eq (value_cmp u v) || b) (has_values u f ss)
    ]

rises_up : (vs : List Value) → Rising (λ w. w) value_cmp vs → Up value_cmp value_total vs
rises_up [] rise = tt
rises_up (v ∷ vs) rise = (each vs rise.0, rises_up vs rise.1)
  where
    each : (ws : List Value) → AllByRecursion (λ w. value_cmp v w ≡ Less) ws → AllByRecursion (λ w. is_gt (value_cmp v w) ≡ false) ws
    each [] all = tt
    each (w ∷ ws) all = (ap is_gt all.0, each ws all.1)

none_behind : (u : Value) (ws : List Value) → AllByRecursion (λ w. value_cmp u w ≡ Less) ws → filter (λ w. is_eq (value_cmp u w)) ws ≡ []
none_behind u [] all = refl
none_behind u (w ∷ ws) all = ap (λ r. cond (is_eq r) (w ∷ filter (λ x. is_eq (value_cmp u x)) ws) (filter (λ x. is_eq (value_cmp u x)) ws)) all.0 ∙ none_behind u ws all.1

one_value : (u : Value) (vs : List Value) → Rising (λ w. w) value_cmp vs → filter (λ w. is_eq (value_cmp u w)) vs ≡ cond (has_one u vs) (u ∷ []) []
one_value u [] rise = refl
one_value u (v ∷ vs) rise =
    elim (is_eq (value_cmp u v)) as (λ b. is_eq (value_cmp u v) ≡ b → cond b (v ∷ filter (λ w. is_eq (value_cmp u w)) vs) (filter (λ w. is_eq (value_cmp u w)) vs) ≡ cond (b || has_one u vs) (u ∷ []) []) [
      | true ↦ λ e.
          let same : u ≡ v = tied_same u v e in
          ap (λ l. v ∷ l) (none_behind u vs (subst (λ x. AllByRecursion (λ w. value_cmp x w ≡ Less) vs) (sym same) rise.0)) ∙ ap (λ x. x ∷ []) (sym same)
      | false ↦ λ _. one_value u vs rise.1
    ] refl

-- rows of which as many have each value have the same values
pub values_same : (f : ℕ) (rows others : List (ℕ × List Cell)) → ((v : Value) → length (rows_with f v rows) ≡ length (rows_with f v others)) → values_of f rows ≡ values_of f others
values_same f rows others counts =
    unique value_cmp value_total (values_of f rows) (values_of f others) (rises_up (values_of f rows) (rise_values f rows)) (rises_up (values_of f others) (rise_values f others))
    (λ u. one_value u (values_of f rows) (rise_values f rows)
    ∙ ap (λ b. cond b (u ∷ []) []) (has_values u f rows ∙ counted_has f u rows ∙ ap (ltb 0) (counts u) ∙ sym (counted_has f u others) ∙ sym (has_values u f others))
    ∙ sym (one_value u (values_of f others) (rise_values f others)))
