-- Facts on logs, on views that are added up, and on prefixes.
use Rattle.std.proofs.Common.{◌≡◌, ◌≢◌, ℕ, zero, suc, ◌+◌, ◌≤◌, Bool, true, false, eqb, eq-eqb, ne_eqb, cond, List, [], ◌∷◌, ◌++◌, length, drop, set, sym, refl, ap, ◌∙◌, subst, arith, length-append, append_assoc}
use Rattle.std.proofs.Math.Seq.{drop-append_seam}
use mathlib.Core.Option.{some, some-injective, some-ne-none}
use mathlib.Core.List.{IsPrefix, append-nil}
use lib.ListN.{get_elem?}
use Rattle.soc_hall.specs.declared.view.Entry.{Entry}
use Rattle.soc_hall.specs.declared.view.Turn.{Turn}
use Rattle.soc_hall.specs.Log.{tagged, changes, changes_by, whole, pieces}
use Rattle.soc_hall.specs.inner.Rule.{total}

module _ {X : Type 0} where
  pub changes_append : (a b : List (Entry X)) → changes (a ++ b) ≡ changes a ++ changes b
  changes_append [] b = refl
  changes_append (e ∷ es) b = ap (λ (z : List X). e.change ∷ z) (changes_append es b)

  pub whole_append : (o : List X) (a b : List (Entry X)) → whole o (a ++ b) ≡ whole o a ++ changes b
  whole_append o a b = ap (λ (z : List X). o ++ z) (changes_append a b) ∙ sym (append_assoc o (changes a) (changes b))

  pub changes_tagged : (n : ℕ) (xs : List X) → changes (tagged n xs) ≡ xs
  changes_tagged n [] = refl
  changes_tagged n (x ∷ xs) = ap (λ (z : List X). x ∷ z) (changes_tagged n xs)

  pub length_tagged : (n : ℕ) (xs : List X) → length (tagged n xs) ≡ length xs
  length_tagged n [] = refl
  length_tagged n (x ∷ xs) = ap suc (length_tagged n xs)

  pub length_changes : (es : List (Entry X)) → length (changes es) ≡ length es
  length_changes [] = refl
  length_changes (e ∷ es) = ap suc (length_changes es)

  pub length_whole : (o : List X) (es : List (Entry X)) → length (whole o es) ≡ length o + length es
  length_whole o es = length-append o (changes es) ∙ ap (λ (z : ℕ). length o + z) (length_changes es)

  by_cons : (n : ℕ) (e : Entry X) (b : Bool) (xs ys : List X) → cond b (e.change ∷ (xs ++ ys)) (xs ++ ys) ≡ cond b (e.change ∷ xs) xs ++ ys
  by_cons n e true xs ys = refl
  by_cons n e false xs ys = refl

  pub by_append : (n : ℕ) (a b : List (Entry X)) → changes_by n (a ++ b) ≡ changes_by n a ++ changes_by n b
  by_append n [] b = refl
  by_append n (e ∷ es) b = ap (λ (z : List X). cond (eqb e.by n) (e.change ∷ z) z) (by_append n es b) ∙ by_cons n e (eqb e.by n) (changes_by n es) (changes_by n b)

  pub by_same : (n : ℕ) (xs : List X) → changes_by n (tagged n xs) ≡ xs
  by_same n [] = refl
  by_same n (x ∷ xs) = ap (λ b. cond b (x ∷ changes_by n (tagged n xs)) (changes_by n (tagged n xs))) (eq-eqb n n refl) ∙ ap (λ (z : List X). x ∷ z) (by_same n xs)

  pub by_other : (n m : ℕ) (xs : List X) → n ≢ m → changes_by m (tagged n xs) ≡ []
  by_other n m [] ne = refl
  by_other n m (x ∷ xs) ne = ap (λ b. cond b (x ∷ changes_by m (tagged n xs)) (changes_by m (tagged n xs))) (ne_eqb n m ne) ∙ by_other n m xs ne

  -- where ys begins with xs, the rest is what drop gives
  pub prefix_drop : (xs ys : List X) → IsPrefix xs ys → xs ++ drop (length xs) ys ≡ ys
  prefix_drop xs ys p = subst (λ (z : List X). xs ++ drop (length xs) z ≡ z) p.1 (ap (λ (z : List X). xs ++ z) (drop-append_seam xs p.0))

  pub nil_left : (xs ys : List X) → xs ++ ys ≡ [] → xs ≡ []
  nil_left [] ys e = refl
  nil_left (x ∷ xs) ys e = absurd (let l : length ((x ∷ xs) ++ ys) ≡ 0 = ap length e in let m : length ((x ∷ xs) ++ ys) ≡ suc (length (xs ++ ys)) = refl in omega arith)

  -- where no change of the log bears a number, none of a beginning does
  pub none_seen : (n : ℕ) (seen log : List (Entry X)) → IsPrefix seen log → changes_by n log ≡ [] → changes_by n seen ≡ []
  none_seen n seen log p none_in = nil_left (changes_by n seen) (changes_by n p.0) (sym (by_append n seen p.0) ∙ (ap (changes_by n) p.1 ∙ none_in))

module _ {X C P : Type 0} where
  pub pieces_snoc : (ts : List (Turn X C P)) (t : Turn X C P) → pieces (ts ++ t ∷ []) ≡ pieces ts ++ t.piece
  pieces_snoc [] t = append-nil t.piece
  pieces_snoc (u ∷ us) t = ap (λ (z : List X). u.piece ++ z) (pieces_snoc us t) ∙ sym (append_assoc u.piece (pieces us) t.piece)

module _ {A : Type 0} where
  pub prefix_refl : (xs : List A) → IsPrefix xs xs
  prefix_refl xs = ([], append-nil xs)

  pub prefix_append : (xs ys zs : List A) → IsPrefix xs ys → IsPrefix xs (ys ++ zs)
  prefix_append xs ys zs p = (p.0 ++ zs, sym (append_assoc xs p.0 zs) ∙ ap (λ (z : List A). z ++ zs) p.1)

module _ {V : Type 0} (f : V → ℕ) where
  -- the total after a change of one view
  pub total_set : (vs : List V) (j : ℕ) (v w : V) → get_elem? vs j ≡ some v → total f (set vs j w) + f v ≡ total f vs + f w
  total_set [] j v w e = absurd (some-ne-none v (sym e))
  total_set (x ∷ xs) zero v w e = let is : f x ≡ f v = ap f (some-injective x v e) in omega arith
  total_set (x ∷ xs) (suc j) v w e = let r = total_set xs j v w e in omega arith

  pub total_snoc : (vs : List V) (w : V) → total f (vs ++ w ∷ []) ≡ total f vs + f w
  total_snoc [] w = omega arith
  total_snoc (x ∷ xs) w = let r = total_snoc xs w in omega arith

  pub total_below : (g : V → ℕ) (vs : List V) → ((j : ℕ) (v : V) → get_elem? vs j ≡ some v → f v ≤ g v) → total f vs ≤ total g vs
  total_below g [] h = omega arith
  total_below g (x ∷ xs) h = let a = h 0 x refl in let b = total_below g xs (λ j v e. h (suc j) v e) in omega arith
