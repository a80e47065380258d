-- The ids of the held crashes, one after another.
use Rattle.std.proofs.Common.{◌≡◌, ℕ, zero, suc, ◌+◌, Bool, true, false, not, cond, List, [], ◌∷◌, ◌++◌, map, take, filter, Some, refl, sym, ap, ◌∙◌, arith}
use Rattle.std.specs.Prelude.{if◌then◌else◌, slice_get}
use Rattle.soc_base.proofs.Folk.{none_is_not_some, some_same}
use Rattle.soc_ledger.specs.declared.crash.Filed.{Filed}

-- those of these crashes that weren't withdrawn
abbrev pub held_of : (List ℕ → Bool) → List Filed → List (List ℕ)
held_of withdrawn crashes = filter (λ id. not (withdrawn id)) (map (λ crash. crash.id) crashes)

none_taken : (crashes : List Filed) → take 0 crashes ≡ []
none_taken [] = refl
none_taken (crash ∷ crashes) = refl

-- one more crash
pub held_next : (withdrawn : List ℕ → Bool) (crashes : List Filed) (n : ℕ) (crash : Filed) → slice_get crashes n ≡ Some crash
    → held_of withdrawn (take (suc n) crashes) ≡ held_of withdrawn (take n crashes) ++ (if withdrawn crash.id then [] else crash.id ∷ [])
held_next withdrawn [] n crash is = absurd (none_is_not_some is)
held_next withdrawn (first ∷ crashes) zero crash is =
    ap (λ l. held_of withdrawn (first ∷ l)) (none_taken crashes)
    ∙ (alone (withdrawn first.id) ∙ ap (λ c. if withdrawn c.id then [] else c.id ∷ []) (some_same first crash is)) where
      alone : (b : Bool) → cond (not b) (first.id ∷ []) [] ≡ (if b then [] else first.id ∷ [])
      alone true = refl
      alone false = refl
held_next withdrawn (first ∷ crashes) (suc n) crash is =
    elim (withdrawn first.id) as (λ b. cond (not b) (first.id ∷ held_of withdrawn (take (suc n) crashes)) (held_of withdrawn (take (suc n) crashes))
    ≡ cond (not b) (first.id ∷ held_of withdrawn (take n crashes)) (held_of withdrawn (take n crashes)) ++ (if withdrawn crash.id then [] else crash.id ∷ [])) [
      | true ↦ held_next withdrawn crashes n crash is
      | false ↦ ap (λ l. first.id ∷ l) (held_next withdrawn crashes n crash is)
    ]

-- its id is added where it wasn't withdrawn
pub held_more : (withdrawn : List ℕ → Bool) (crashes : List Filed) (n : ℕ) (crash : Filed) (b : Bool) (ids more : List (List ℕ)) → slice_get crashes n ≡ Some crash → b ≡ withdrawn crash.id → ids ≡ held_of withdrawn (take n crashes)
    → more ≡ ids ++ (if b then [] else crash.id ∷ []) → more ≡ held_of withdrawn (take (n + 1) crashes)
held_more withdrawn crashes n crash b ids more at tested before added =
    let next : suc n ≡ n + 1 = omega arith in
    added ∙ (ap (λ l. l ++ (if b then [] else crash.id ∷ [])) before
    ∙ (ap (λ w. held_of withdrawn (take n crashes) ++ (if w then [] else crash.id ∷ [])) tested
    ∙ (sym (held_next withdrawn crashes n crash at) ∙ ap (λ k. held_of withdrawn (take k crashes)) next)))
