-- Chains of symbol files.
use Rattle.std.proofs.Common.{◌≡◌, ◌≢◌, ℕ, ◌+◌, ◌<◌, ◌≤◌, Bool, true, false, cond, List, [], ◌∷◌, length, get_or, set, Option, None, Some, unwrap_or, refl, sym, ap, ◌∙◌, subst, arith, ⊎_elim}
use Rattle.std.specs.Prelude.{bytes_eq}
use Rattle.std.specs.List.{slice_get}
use Rattle.std.specs.Ordering.{nat_cmp, match_ordering, is_eq}
use Rattle.std.specs.Cmp.Lexicographic.{slice_cmp}
use Rattle.std.specs.Map.{lookup}
use Rattle.std.specs.BTreeMap.{insert_entry, is_at}
use Rattle.std.specs.declared.cmp.Ordering.{Ordering}
use Rattle.std.specs.declared.cmp.Ordering.TheVariants.{Less, Equal, Greater}
use Rattle.std.proofs.lemmas.Bool.{cases_eq, true≢false}
use Rattle.std.proofs.lemmas.List.{length-set, get_or-set_same, get_or-set_other}
use Rattle.std.proofs.lemmas.Map.Text.{is_eq-slice_cmp}
use Rattle.std.proofs.lemmas.Option.{slice_get_within}
use Rattle.std.proofs.lemmas.Slice.Eq.{bytes_eq-Decides}
use Rattle.soc_base.proofs.Folk.{some_same}
use Rattle.soc_base.specs.Names.{value_of, with_value}
use Rattle.soc_report.specs.inner.Index.{place_or, LeadsTo, IsChain}

not_equal : (x y : List ℕ) (b : Bool) (r : Ordering) → slice_cmp nat_cmp x y ≡ r → is_eq r ≡ b → bytes_eq x y ≡ b
not_equal x y b r is result = sym (is_eq-slice_cmp x y) ∙ (ap is_eq is ∙ result)

-- what a map has of a name after one more value
value_of-with_value : {V : Type 0} (ps : List (List ℕ × V)) (name : List ℕ) (value : V) (q : List ℕ)
    → value_of (with_value ps name value) q ≡ cond (bytes_eq q name) (Some value) (value_of ps q)
value_of-with_value [] name value q = ap (λ b. cond b (Some value) None) (is_eq-slice_cmp q name)
value_of-with_value {V = V} (p ∷ ps) name value q =
    let here : is_eq (slice_cmp nat_cmp q p.0) ≡ bytes_eq q p.0 = is_eq-slice_cmp q p.0 in
    elim (slice_cmp nat_cmp name p.0) as (λ r. slice_cmp nat_cmp name p.0 ≡ r
    → lookup (is_at (slice_cmp nat_cmp q)) (match_ordering r ((name, value) ∷ p ∷ ps) ((p.0, value) ∷ ps) (p ∷ insert_entry (slice_cmp nat_cmp) ps name value))
    ≡ cond (bytes_eq q name) (Some value) (value_of (p ∷ ps) q)) [
      | Less ↦ λ is. ap (λ b. cond b (Some value) (value_of (p ∷ ps) q)) (is_eq-slice_cmp q name)
      | Equal ↦ λ is.
          let same : name ≡ p.0 = (bytes_eq-Decides name p.0).0 (not_equal name p.0 true Equal is refl) in
          ap (λ b. cond b (Some value) (value_of ps q)) here
          ∙ (elim (bytes_eq q p.0) as (λ b. is_eq (slice_cmp nat_cmp q p.0) ≡ b → cond b (Some value) (value_of ps q) ≡ cond b (Some value) (value_of (p ∷ ps) q)) [
            | true ↦ λ h. refl
            | false ↦ λ h. sym (ap (λ b. cond b (Some p.1) (value_of ps q)) h)
          ] here
          ∙ ap (λ n. cond (bytes_eq q n) (Some value) (value_of (p ∷ ps) q)) (sym same))
      | Greater ↦ λ is.
          ap (λ t. cond (is_eq (slice_cmp nat_cmp q p.0)) (Some p.1) t) (value_of-with_value ps name value q)
          ∙ elim (bytes_eq q name) as (λ b. bytes_eq q name ≡ b
          → cond (is_eq (slice_cmp nat_cmp q p.0)) (Some p.1) (cond b (Some value) (value_of ps q)) ≡ cond b (Some value) (value_of (p ∷ ps) q)) [
            | true ↦ λ h.
                let same : q ≡ name = (bytes_eq-Decides q name).0 h in
                ap (λ o. cond (is_eq o) (Some p.1) (Some value)) (ap (λ u. slice_cmp nat_cmp u p.0) same ∙ is)
            | false ↦ λ h. refl
          ] refl
    ] refl

-- the place of an id, once one more place was put before all others
first_put : (ids : List (List ℕ)) (place : ℕ) (id q : List ℕ) (places : List (List ℕ × ℕ)) (behind : List ℕ) → slice_get ids place ≡ Some id
    → IsChain ids (place + 1) places behind → (b : Bool) → bytes_eq q id ≡ b
    → LeadsTo ids q place (unwrap_or (cond b (Some place) (value_of places q)) (length ids))
first_put ids place id q places behind here chain true is =
    let same : q ≡ id = (bytes_eq-Decides q id).0 is in
    record {
      within = omega arith;
      skipped = λ other start before at. absurd (omega (arith, start, before));
      found = λ _. here ∙ ap Some (sym same);
    }
first_put ids place id q places behind here chain false is =
    let old = chain.first q in
    record {
      within = let more : place + 1 ≤ place_or (length ids) places q = old.within in omega arith;
      skipped = λ other start before at. ⊎_elim
          (λ (same : other ≡ place).
          let equal : q ≡ id = some_same _ _ (sym at ∙ ap (slice_get ids) same ∙ here) in
          absurd (true≢false (sym ((bytes_eq-Decides q id).1 equal) ∙ is)))
          (λ (differs : other ≢ place). let later : place + 1 ≤ other = omega (arith, start, differs) in old.skipped other later before at)
          (cases_eq other place);
      found = old.found;
    }

-- a place before all others, of an id that it has
pub chain_put : (ids : List (List ℕ)) (place : ℕ) (id : List ℕ) (places more : List (List ℕ × ℕ)) (behind longer : List ℕ) → slice_get ids place ≡ Some id
    → IsChain ids (place + 1) places behind → more ≡ with_value places id place → longer ≡ set behind place (place_or (length behind) places id) → IsChain ids place more longer
chain_put ids place id places more behind longer here chain is_more is_longer =
    let within : place < length ids = slice_get_within ids place id here in
    let count : length behind ≡ length ids = chain.count in
    let inside : place < length behind = omega arith in
    let first : ℕ = place_or (length ids) places id in
    let set_is : longer ≡ set behind place (place_or (length ids) places id) = is_longer ∙ ap (λ (n : ℕ). set behind place (place_or n places id)) count in
    record {
      count = ap length set_is ∙ length-set behind place (place_or (length ids) places id) ∙ count;
      first = λ q.
          let is : place_or (length ids) more q ≡ unwrap_or (cond (bytes_eq q id) (Some place) (value_of places q)) (length ids) =
          ap (λ (ps : List (List ℕ × ℕ)). place_or (length ids) ps q) is_more ∙ ap (λ (o : Option ℕ). unwrap_or o (length ids)) (value_of-with_value places id place q) in
          subst (λ (p : ℕ). LeadsTo ids q place p) (sym is) (first_put ids place id q places behind here chain (bytes_eq q id) refl);
      next = λ p q start at. ⊎_elim
          (λ (same : p ≡ place).
          let is_id : q ≡ id = some_same _ _ (sym at ∙ ap (slice_get ids) same ∙ here) in
          let goes : get_or longer p 0 ≡ place_or (length ids) places q =
          ap (λ (l : List ℕ). get_or l p 0) set_is ∙ ap (λ (k : ℕ). get_or (set behind place (place_or (length ids) places id)) k 0) same
          ∙ get_or-set_same behind place (place_or (length ids) places id) 0 inside ∙ ap (place_or (length ids) places) (sym is_id) in
          subst (λ (k : ℕ). LeadsTo ids q (p + 1) k) (sym goes) (subst (λ (k : ℕ). LeadsTo ids q (k + 1) (place_or (length ids) places q)) (sym same) (chain.first q)))
          (λ (other : p ≢ place).
          let goes : get_or longer p 0 ≡ get_or behind p 0 =
          ap (λ (l : List ℕ). get_or l p 0) set_is ∙ get_or-set_other behind place p (place_or (length ids) places id) 0 other in
          let later : place + 1 ≤ p = omega (arith, start, other) in
          subst (λ (k : ℕ). LeadsTo ids q (p + 1) k) (sym goes) (chain.next p q later at))
          (cases_eq p place);
    }
