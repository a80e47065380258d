-- Lists of pairs that are copied and compared pair by pair.
use Rattle.std.proofs.Common.{◌≡◌, ℕ, List, [], ◌∷◌, ◌++◌, Option, Some, None, sym, ap, subst, ◌∙◌, refl, Bool, true, false, ◌&&◌, append_assoc}
use Rattle.std.specs.Prelude.{MatchOption, IfSome, IsTrue}
use Rattle.std.specs.Ordering.{nat_cmp, match_ordering, ordering_reverse}
use Rattle.std.specs.Iterator.{YieldsThen}
use Rattle.std.specs.List.{AllByRecursion, AllZip}
use Rattle.std.specs.List.Sorted.{IsStrictlySortedBy}
use Rattle.std.specs.Cmp.Lexicographic.{slice_cmp, nat_list_cmp_total}
use Rattle.std.specs.Str.{bytes_eq}
use Rattle.std.proofs.lemmas.Slice.Eq.{bytes_eq-Decides}
use Rattle.std.proofs.lemmas.List.{append_cancel_left}
use Rattle.std.proofs.lemmas.Map.Iter.{rest_so_far}
use Rattle.std.specs.Map.{keys_of}
use Rattle.std.specs.Map.Iter.{TakesFirst, deref_pair}
use Rattle.std.specs.BTreeMap.{insert_entry}
use Rattle.std.specs.declared.cmp.Ordering.TheVariants.{Less, Greater}
use Rattle.std.proofs.Common.{Bor, map}
use Rattle.soc_base.proofs.Folk.{and_parts}
use Rattle.soc_base.specs.Names.{IsRising, with_value}

-- what holds of each key holds of one in the middle
key_within : {V : Type 0} (P : List ℕ → Type 0) (front rest : List (List ℕ × V)) (e : List ℕ × V) → AllByRecursion P (keys_of (front ++ e ∷ rest)) → P e.0
key_within P [] rest e all = all.0
key_within P (p ∷ front) rest e all = key_within P front rest e all.1

-- a pair that stands behind others is put behind them
set_next : {V : Type 0} (front rest : List (List ℕ × V)) (e : List ℕ × V) → IsRising (front ++ e ∷ rest) → with_value front e.0 e.1 ≡ front ++ e ∷ []
unfolding IsStrictlySortedBy
set_next [] rest e rising = refl
set_next (p ∷ front) rest e rising =
    let less : slice_cmp nat_cmp p.0 e.0 ≡ Less = key_within (λ y. slice_cmp nat_cmp p.0 y ≡ Less) front rest e rising.0 in
    let greater : slice_cmp nat_cmp e.0 p.0 ≡ Greater = nat_list_cmp_total.antisymm e.0 p.0 ∙ ap ordering_reverse less in
    ap (λ o. match_ordering o (e ∷ p ∷ front) ((p.0, e.1) ∷ front) (p ∷ insert_entry (slice_cmp nat_cmp) front e.0 e.1)) greater
    ∙ ap (λ t. p ∷ t) (set_next front rest e rising.1)

-- one pair more is copied
pub copied : {V : Type 0} (all copy left rest new : List (List ℕ × V)) (n : List ℕ) (v : V) → IsRising all → left ≡ (n, v) ∷ rest → new ≡ with_value copy n v → copy ++ left ≡ all → new ++ rest ≡ all
copied all copy left rest new n v rising next set so_far =
    let whole : copy ++ (n, v) ∷ rest ≡ all = ap (λ t. copy ++ t) (sym next) ∙ so_far in
    let put : new ≡ copy ++ (n, v) ∷ [] = set ∙ set_next copy rest (n, v) (subst (λ t. IsRising t) (sym whole) rising) in
    ap (λ t. t ++ rest) put ∙ append_assoc copy ((n, v) ∷ []) rest ∙ whole

-- two iterators whose items were compared to their ends
module _ {A B : Type 0} (view : A → B) (eq : A → A → Bool) (same : (x y : A) → eq x y ≡ true → view x ≡ view y) (differs : (x y : A) → eq x y ≡ false → view x ≡ view y → ⊥) where
  same_views : (xs ys : List A) → AllZip (λ x y. eq x y ≡ true) xs ys → map view xs ≡ map view ys
  same_views [] [] all = refl
  same_views [] (y ∷ ys) all = elim all [ ]
  same_views (x ∷ xs) [] all = elim all [ ]
  same_views (x ∷ xs) (y ∷ ys) all = ap (λ v. v ∷ map view xs) (same x y all.0) ∙ ap (λ vs. view y ∷ vs) (same_views xs ys all.1)

  at_ends : (s t u w : List B) (r : Bool) (o p : Option A) → TakesFirst view s o u → TakesFirst view t p w
      → MatchOption o (MatchOption p (r ≡ true) (λ _. r ≡ false)) (λ x. (r ≡ false) × IfSome p (λ y. eq x y ≡ false))
      → (IsTrue r → s ≡ t) × (s ≡ t → IsTrue r)
  at_ends s t u w r None None first second last = ((λ h. first.0 ∙ sym second.0), λ h. last)
  at_ends s t u w r None (Some y) first second last =
      ((λ h. absurd (let e : true ≡ false = sym h ∙ last in cc)), λ h. absurd (let e : [] ≡ view y ∷ w = sym first.0 ∙ h ∙ second in cc))
  at_ends s t u w r (Some x) None first second last =
      ((λ h. absurd (let e : true ≡ false = sym h ∙ last.0 in cc)), λ h. absurd (let e : [] ≡ view x ∷ u = sym second.0 ∙ sym h ∙ first in cc))
  at_ends s t u w r (Some x) (Some y) first second last =
      ((λ h. absurd (let e : true ≡ false = sym h ∙ last.0 in cc)), λ h. absurd (differs x y last.1 (let e : view x ∷ u ≡ view y ∷ w = sym first ∙ h ∙ second in cc)))

  pub compared : (a b s t : List B) (r : Bool) (xs ys : List A) (o p : Option A) (u w : List B) → s ≡ a → t ≡ b → YieldsThen (TakesFirst view) s xs o u → YieldsThen (TakesFirst view) t ys p w → AllZip (λ x y. eq x y ≡ true) xs ys
      → MatchOption o (MatchOption p (r ≡ true) (λ _. r ≡ false)) (λ x. (r ≡ false) × IfSome p (λ y. eq x y ≡ false))
      → (IsTrue r → a ≡ b) × (a ≡ b → IsTrue r)
  compared a b s t r xs ys o p u w from to first second all last =
      let before : s ≡ map view xs ++ first.0 = rest_so_far view xs s first.0 first.1 in
      let behind : t ≡ map view ys ++ second.0 = rest_so_far view ys t second.0 second.1 in
      let front : map view xs ≡ map view ys = same_views xs ys all in
      let ends = at_ends first.0 second.0 u w r o p first.2 second.2 last in (
        (λ h. sym from ∙ before ∙ ap (λ t. map view xs ++ t) (ends.0 h) ∙ ap (λ t. t ++ second.0) front ∙ sym behind ∙ to),
        λ h. ends.1 (append_cancel_left (map view ys) first.0 second.0 (ap (λ t. t ++ first.0) (sym front) ∙ sym before ∙ from ∙ h ∙ sym to ∙ behind)),
      )

-- equal pairs of bytes
abbrev pub pair_eq : Bor (List ℕ) × Bor (List ℕ) → Bor (List ℕ) × Bor (List ℕ) → Bool
pair_eq x y = bytes_eq x.0.now y.0.now && bytes_eq x.1.now y.1.now

pub pair_same : (x y : Bor (List ℕ) × Bor (List ℕ)) → pair_eq x y ≡ true → deref_pair x ≡ deref_pair y
pair_same x y e =
    let h = and_parts (bytes_eq x.0.now y.0.now) (bytes_eq x.1.now y.1.now) e in
    let name : x.0.now ≡ y.0.now = (bytes_eq-Decides x.0.now y.0.now).0 h.0 in
    let value : x.1.now ≡ y.1.now = (bytes_eq-Decides x.1.now y.1.now).0 h.1 in
    ap (λ n. (n, x.1.now)) name ∙ ap (λ v. (y.0.now, v)) value

pub pair_differs : (x y : Bor (List ℕ) × Bor (List ℕ)) → pair_eq x y ≡ false → deref_pair x ≡ deref_pair y → ⊥
pair_differs x y e h =
    let name : bytes_eq x.0.now y.0.now ≡ true = (bytes_eq-Decides x.0.now y.0.now).1 (ap (λ u. u.0) h) in
    let value : bytes_eq x.1.now y.1.now ≡ true = (bytes_eq-Decides x.1.now y.1.now).1 (ap (λ u. u.1) h) in
    let yes : pair_eq x y ≡ true = ap (λ b. b && bytes_eq x.1.now y.1.now) name ∙ value in
    let no_way : true ≡ false = sym yes ∙ e in
    cc
