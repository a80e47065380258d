-- Conditions, each once, ask what they all ask.
use Rattle.std.proofs.Common.{◌≡◌, ◌≢◌, ◌<◌, ◌+◌, ℕ, suc, Bool, true, false, cond, List, [], ◌∷◌, ◌++◌, Option, length, take, get_or, eqb, refl, sym, ap, subst, ◌∙◌, arith, append-nil}
use Rattle.std.specs.Prelude.{◌&&◌, ◌||◌, not, if◌then◌else◌}
use Rattle.std.specs.List.{AllByRecursion, Contains, list_all, list_any}
use Rattle.std.proofs.lemmas.Bool.{eq-eqb, ne_eqb}
use Rattle.std.proofs.lemmas.List.Elements.{filter_more}
use Rattle.std.proofs.lemmas.List.Folds.{list_any-append}
use Rattle.soc_base.proofs.Folk.{all_push, or_false}
use Rattle.soc_schema.specs.declared.value.Value.{Value}
use Rattle.soc_query.specs.declared.condition.Condition.{Condition}
use Rattle.soc_query.specs.Answers.{is_exact}
use Rattle.soc_search.specs.inner.Selections.{AreDistinct, AreOnce, are_met, asked_of, is_met, one_is_met}
use Rattle.soc_search.proofs.SelectionLemmas.{list_any_at}

-- one condition more

any_push : (test : Condition → Bool) (cs : List Condition) (c : Condition) → list_any test (cs ++ c ∷ []) ≡ (list_any test cs || test c)
any_push test cs c = list_any-append test cs (c ∷ []) ∙ ap (λ b. list_any test cs || b) (or_false (test c))

distinct_push : (cs : List Condition) (c : Condition) → AreDistinct cs → AllByRecursion (λ d. d ≢ c) cs → AreDistinct (cs ++ c ∷ [])
distinct_push [] c distinct new = (tt, tt)
distinct_push (d ∷ cs) c distinct new = (all_push (λ e. e ≢ d) cs c distinct.0 (λ same. new.0 (sym same)), distinct_push cs c distinct.1 new.1)

all_differ : (cs : List Condition) (c : Condition) → ¬ (Contains cs c) → AllByRecursion (λ d. d ≢ c) cs
all_differ [] c new = tt
all_differ (d ∷ cs) c new = (λ same. new (0, omega arith, same), all_differ cs c (λ has. new (suc has.0, (let within = has.1 in omega (arith, within)), has.2)))

absorbed : (a b : Bool) → (b ≡ true → a ≡ true) → a ≡ (a || b)
absorbed true b has = refl
absorbed false true has = has refl
absorbed false false has = refl

module _ (once cs : List Condition) (are : AreOnce once cs) (c : Condition) where
  pub once_new : ¬ (Contains once c) → AreOnce (once ++ c ∷ []) (cs ++ c ∷ [])
  once_new new = record {
    same = λ test. any_push test once c ∙ (ap (λ b. b || test c) (are.same test) ∙ sym (any_push test cs c));
    distinct = distinct_push once c are.distinct (all_differ once c new);
  }

  pub once_again : Contains once c → AreOnce once (cs ++ c ∷ [])
  once_again has = record {
    same = λ test.
        absorbed (list_any test once) (test c) (λ is. list_any_at test once has.0 c has.1 (ap test has.2 ∙ is))
        ∙ (ap (λ b. b || test c) (are.same test) ∙ sym (any_push test cs c));
    distinct = are.distinct;
  }

-- a condition of the field, or of another one

module _ (once cs : List Condition) (f i : ℕ) (c : Condition) (within : i < length cs) (here : get_or cs i c ≡ c) (are : AreOnce once (asked_of f (take i cs))) where
  asked_more : (is : Bool) → eqb c.field f ≡ is → asked_of f (take (i + 1) cs) ≡ asked_of f (take i cs) ++ cond is (c ∷ []) []
  asked_more is at =
      filter_more (λ d. eqb d.field f) cs i c within
      ∙ (ap (λ (d : Condition). asked_of f (take i cs) ++ cond (eqb d.field f) (d ∷ []) []) here
      ∙ ap (λ b. asked_of f (take i cs) ++ cond b (c ∷ []) []) at)

  pub more_new : c.field ≡ f → ¬ (Contains once c) → AreOnce (once ++ c ∷ []) (asked_of f (take (i + 1) cs))
  more_new at new = subst (AreOnce (once ++ c ∷ [])) (sym (asked_more true (eq-eqb c.field f at))) (once_new once (asked_of f (take i cs)) are c new)

  pub more_again : c.field ≡ f → Contains once c → AreOnce once (asked_of f (take (i + 1) cs))
  more_again at has = subst (AreOnce once) (sym (asked_more true (eq-eqb c.field f at))) (once_again once (asked_of f (take i cs)) are c has)

  pub more_other : c.field ≢ f → AreOnce once (asked_of f (take (i + 1) cs))
  more_other at = subst (AreOnce once) (sym (asked_more false (ne_eqb c.field f at) ∙ append-nil (asked_of f (take i cs)))) are

-- what they ask

all_by_any : (test : Condition → Bool) (cs : List Condition) → list_all test cs ≡ not (list_any (λ c. not (test c)) cs)
all_by_any test [] = refl
all_by_any test (c ∷ cs) = with_rest (test c) _ _ (all_by_any test cs) where
  with_rest : (b a n : Bool) → a ≡ not n → (b && a) ≡ not (not b || n)
  with_rest true a n is = is
  with_rest false a n is = refl

pub once_met : (once cs : List Condition) → AreOnce once cs → (value : Option Value) → are_met once value ≡ are_met cs value
once_met once cs are value =
    let test : Bool → Condition → Bool = λ one c. if is_exact c then one else is_met c value in
    ap (λ one. list_all (test one) once) (are.same (λ c. is_exact c && is_met c value))
    ∙ (all_by_any (test (one_is_met cs value)) once
    ∙ (ap not (are.same (λ c. not (test (one_is_met cs value) c))) ∙ sym (all_by_any (test (one_is_met cs value)) cs)))
