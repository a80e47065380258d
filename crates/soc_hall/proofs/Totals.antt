-- What the changes in the log of a closed state weigh: as much as the opening, and the pieces of all seats' turns.
use Rattle.std.proofs.Common.{◌≡◌, ◌≢◌, ◌⊎◌, ℕ, zero, suc, ◌+◌, Bool, true, false, eqb, eq-eqb, ne_eqb, cond, List, [], ◌∷◌, length, sum_by, All, sym, refl, ap, ◌∙◌, inl, inr, ⊎_elim, arith}
use Rattle.std.proofs.lemmas.List.Elements.{All-head, All-tail, All-weaker}
use Rattle.std.proofs.lemmas.List.Sums.{sum_by-cons, sum_by-append}
use mathlib.Core.Option.{some, some-injective, some-ne-none}
use lib.ListN.{get_elem?}
use Rattle.soc_hall.specs.declared.view.Entry.{Entry}
use Rattle.soc_hall.specs.declared.view.Known.{Known}
use Rattle.soc_hall.specs.Log.{changes, changes_by, pieces}
use Rattle.soc_hall.specs.Asked.{HasPart, Closes}
use Rattle.soc_hall.proofs.Closes.{all_at}

module _ {V : Type 0} where
  sum_same : (g h : V → ℕ) (vs : List V) → All (λ v. g v ≡ h v) vs → sum_by g vs ≡ sum_by h vs
  sum_same g h [] all = refl
  sum_same g h (v ∷ vs) all =
      let a = sum_by-cons g v vs in
      let b = sum_by-cons h v vs in
      let one = All-head (λ w. g w ≡ h w) v vs all in
      let rest = sum_same g h vs (All-tail (λ w. g w ≡ h w) v vs all) in omega arith

  sum_zero : (vs : List V) → sum_by (λ v. 0) vs ≡ 0
  sum_zero [] = refl
  sum_zero (v ∷ vs) = let a = sum_by-cons (λ (w : V). 0) v vs in let rest = sum_zero vs in omega arith

  -- at one place g gives n more than h, and elsewhere as much
  sum_more : (g h : V → ℕ) (n : ℕ) (vs : List V) (k : ℕ) (v : V) → get_elem? vs k ≡ some v → g v ≡ n + h v → ((j : ℕ) (w : V) → get_elem? vs j ≡ some w → j ≢ k → g w ≡ h w) → sum_by g vs ≡ n + sum_by h vs
  sum_more g h n [] k v at here else = absurd (some-ne-none v (sym at))
  sum_more g h n (x ∷ xs) zero v at here else =
      let a = sum_by-cons g x xs in
      let b = sum_by-cons h x xs in
      let is : x ≡ v = some-injective x v at in
      let ga : g x ≡ g v = ap g is in
      let hb : h x ≡ h v = ap h is in
      let rest = sum_same g h xs (all_at (λ w. g w ≡ h w) xs (λ j w e. else (suc j) w e (λ z. absurd (omega arith)))) in omega arith
  sum_more g h n (x ∷ xs) (suc k) v at here else =
      let a = sum_by-cons g x xs in
      let b = sum_by-cons h x xs in
      let one : g x ≡ h x = else zero x refl (λ z. absurd (omega arith)) in
      let rest = sum_more g h n xs k v at here (λ j w e ne. else (suc j) w e (λ s. ne (omega arith))) in omega arith

module _ {X : Type 0} where
  some_change : (x : X) (xs : List X) → x ∷ xs ≡ [] → ⊥
  some_change x xs e = absurd (let l : length (x ∷ xs) ≡ 0 = ap length e in omega arith)

  none_behind : (b : Bool) (x : X) (xs : List X) → cond b (x ∷ xs) xs ≡ [] → xs ≡ []
  none_behind true x xs e = absurd (some_change x xs e)
  none_behind false x xs e = e

module _ {B X C P : Type 0} where
  -- whose number the changes bear is one of these seats
  abbrev Owned : List (Entry X) → List (Known B X C P) → Type 0
  Owned entries seats = (number : ℕ) → (changes_by number entries ≡ []) ⊎ ((k : ℕ) × (v : Known B X C P) × (get_elem? seats k ≡ some v) × (v.number ≡ number))

  abbrev Apart : List (Known B X C P) → Type 0
  Apart seats = (j k : ℕ) (v w : Known B X C P) → get_elem? seats j ≡ some v → get_elem? seats k ≡ some w → v.number ≡ w.number → j ≡ k

  module _ (f : X → ℕ) where
    abbrev by_seat : List (Entry X) → Known B X C P → ℕ
    by_seat entries v = sum_by f (changes_by v.number entries)

    -- each change is one seat's
    all_owned : (entries : List (Entry X)) (seats : List (Known B X C P)) → Owned entries seats → Apart seats → sum_by f (changes entries) ≡ sum_by (by_seat entries) seats
    all_owned [] seats owners apart = sym (sum_zero seats)
    all_owned (e ∷ es) seats owners apart =
        let rest : sum_by f (changes es) ≡ sum_by (by_seat es) seats = all_owned es seats (λ number. ⊎_elim (λ none. inl (none_behind (eqb e.by number) e.change (changes_by number es) none)) (λ one. inr one) (owners number)) apart in
        let here : (v : Known B X C P) → v.number ≡ e.by → by_seat (e ∷ es) v ≡ f e.change + by_seat es v =
        λ v is. ap (λ b. sum_by f (cond b (e.change ∷ changes_by v.number es) (changes_by v.number es))) (eq-eqb e.by v.number (sym is)) ∙ sum_by-cons f e.change (changes_by v.number es) in
        let elsewhere : (v : Known B X C P) → v.number ≢ e.by → by_seat (e ∷ es) v ≡ by_seat es v =
        λ v ne. ap (λ b. sum_by f (cond b (e.change ∷ changes_by v.number es) (changes_by v.number es))) (ne_eqb e.by v.number (λ is. ne (sym is))) in
        let more : sum_by (by_seat (e ∷ es)) seats ≡ f e.change + sum_by (by_seat es) seats = ⊎_elim
        (λ none. absurd (some_change e.change (changes_by e.by es) (ap (λ b. cond b (e.change ∷ changes_by e.by es) (changes_by e.by es)) (sym (eq-eqb e.by e.by refl)) ∙ none)))
        (λ (o : (k : ℕ) × (v : Known B X C P) × (get_elem? seats k ≡ some v) × (v.number ≡ e.by)). sum_more (by_seat (e ∷ es)) (by_seat es) (f e.change) seats o.0 o.1 o.2 (here o.1 o.3)
        (λ j w at ne. elsewhere w (λ is. ne (apart j o.0 w o.1 at o.2 (is ∙ sym o.3)))))
        (owners e.by) in
        sum_by-cons f e.change (changes es) ∙ (ap (λ (n : ℕ). f e.change + n) rest ∙ sym more)

    -- the log weighs as much as the opening and the pieces of all seats' turns
    pub closed_total : {answers : B → List X → C → P → List X → Type 0} {log : List X} {basis : B} {seats : List (Known B X C P)} → (c : Closes answers log basis seats) → sum_by f log ≡ sum_by f c.opening + sum_by (λ v. sum_by f (pieces v.turns)) seats
    closed_total {answers} {log} {basis} {seats} c =
        ap (sum_by f) c.log_is
        ∙ (sum_by-append f c.opening (changes c.entries)
        ∙ ap (λ (n : ℕ). sum_by f c.opening + n)
        (all_owned c.entries seats c.owners c.distinct
        ∙ sum_same (by_seat c.entries) (λ v. sum_by f (pieces v.turns)) seats (All-weaker (HasPart answers basis c.opening c.entries) (λ v. by_seat c.entries v ≡ sum_by f (pieces v.turns)) (λ v part. ap (sum_by f) part.mine) seats c.parts)))

  -- the hall opened with the log with which its first seat says that it opened
  pub first_opening : {answers : B → List X → C → P → List X → Type 0} {log : List X} {basis : B} {v : Known B X C P} {seats : List (Known B X C P)} → (c : Closes answers log basis (v ∷ seats)) → c.opening ≡ v.opening
  first_opening {answers} {log} {basis} {v} {seats} c = sym (All-head (HasPart answers basis c.opening c.entries) v seats c.parts).opening_is
