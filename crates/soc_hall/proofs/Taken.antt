-- The seats that another took in, in their order.
use Rattle.std.proofs.Common.{◌≡◌, ℕ, ◌+◌, List, [], ◌∷◌, ◌++◌, length, map, sym, refl, ap, ◌∙◌, arith, length-append, append_assoc}
use Rattle.std.specs.Prelude.{All}
use mathlib.Core.List.{append-nil}
use Rattle.std.proofs.lemmas.List.{map-append, length-map}
use Rattle.std.proofs.lemmas.List.Elements.{All-head, All-tail, All-same}
use Rattle.soc_hall.specs.declared.view.Known.{Known}
use Rattle.soc_hall.specs.declared.view.View.{View}
use Rattle.soc_hall.specs.declared.seats.HallSeat.{HallSeat}
use Rattle.soc_hall.specs.Seats.{known, known_of}
use Rattle.soc_hall.specs.inner.Steps.{taking_in, having_taken}

module _ {A : Type 0} (Q : A → Type 0) where
  all_after : (xs : List A) (x : A) (ys : List A) → All Q (xs ++ x ∷ ys) → Q x
  all_after [] x ys all = All-head Q x ys all
  all_after (y ∷ xs) x ys all = all_after xs x ys (All-tail Q y (xs ++ x ∷ ys) all)

  -- what holds of each of a list holds of the one that comes next
  pub all_next : (xs l l' m : List A) (x : A) → xs ++ l ≡ m → l ≡ x ∷ l' → All Q m → Q x
  all_next xs l l' m x is next all = all_after xs x l' (All-same Q (xs ++ x ∷ l') m (ap (λ (z : List A). xs ++ z) (sym next) ∙ is) all)

module _ {A : Type 0} where
  pub next_left : (xs l l' m : List A) (x : A) → xs ++ l ≡ m → l ≡ x ∷ l' → (xs ++ x ∷ []) ++ l' ≡ m
  next_left xs l l' m x is next = append_assoc xs (x ∷ []) l' ∙ (ap (λ (z : List A). xs ++ z) (sym next) ∙ is)

  pub longer_both : {B : Type 0} → (l l' : List A) (x : A) (m : List B) (y : B) → l' ≡ l ++ x ∷ [] → length l ≡ length m → length l' ≡ length (m ++ y ∷ [])
  longer_both l l' x m y is same = ap length is ∙ (length-append l (x ∷ []) ∙ (ap (λ (n : ℕ). n + 1) same ∙ sym (length-append m (y ∷ []))))

  nil_of : (xs : List A) → length xs ≡ 0 → xs ≡ []
  nil_of [] e = refl
  nil_of (x ∷ xs) e = absurd (omega arith)

  pub none_left : (xs l m : List A) → xs ++ l ≡ m → length l ≡ 0 → xs ≡ m
  none_left xs l m is nil = sym (append-nil xs) ∙ (ap (λ (z : List A). xs ++ z) (sym (nil_of l nil)) ∙ is)

module _ {S B X C P : Type 0} where
  abbrev pub all_known : List (HallSeat S B X C P) → List (Known B X C P)
  all_known seats = map (λ seat. known_of seat) seats

  -- one more seat is taken in
  pub took_one : (l : List (HallSeat S B X C P)) (s : HallSeat S B X C P) (v v' v'' : View B X C P) → v' ≡ having_taken (all_known l) v → v'' ≡ taking_in v' s.chair.me.0 → s.chair.me.0.parts ≡ 1 → v'' ≡ having_taken (all_known (l ++ s ∷ [])) v
  took_one l s v v' v'' is more one =
      let both : all_known (l ++ s ∷ []) ≡ all_known l ++ known_of s ∷ [] = map-append (λ seat. known_of seat) l (s ∷ []) in
      let parts : (v.parts + length (all_known l)) + s.chair.me.0.parts ≡ v.parts + length (all_known (l ++ s ∷ [])) =
      let e : length (all_known (l ++ s ∷ [])) ≡ length (all_known l) + 1 = ap length both ∙ length-append (all_known l) (known_of s ∷ []) in omega arith in
      let gone : (v.gone ++ all_known l) ++ known_of s ∷ [] ≡ v.gone ++ all_known (l ++ s ∷ []) = append_assoc v.gone (all_known l) (known_of s ∷ []) ∙ ap (λ (z : List (Known B X C P)). v.gone ++ z) (sym both) in
      more ∙ (ap (λ (z : View B X C P). taking_in z s.chair.me.0) is ∙ (λ i. record v { parts = parts i; gone = gone i }))

  -- a seat that has taken in all others stands for all of them
  pub all_parts : (l l' : List (HallSeat S B X C P)) (s : HallSeat S B X C P) (v v' : View B X C P) (n : ℕ) → l ≡ l' ++ s ∷ [] → s.chair.me.0 ≡ v → s.chair.me.0.parts ≡ 1 → v' ≡ having_taken (all_known l') v → length l ≡ n → v'.parts ≡ n
  all_parts l l' s v v' n is same one took many =
      let a : v'.parts ≡ v.parts + length (all_known l') = ap (λ (z : View B X C P). z.parts) took in
      let b : v.parts ≡ 1 = ap (λ (z : View B X C P). z.parts) (sym same) ∙ one in
      let c : length (all_known l') ≡ length l' = length-map l' (λ seat. known_of seat) in
      let d : length l ≡ length l' + 1 = ap length is ∙ length-append l' (s ∷ []) in omega arith

  pub all_gone : (l l' : List (HallSeat S B X C P)) (s : HallSeat S B X C P) (v v' : View B X C P) → l ≡ l' ++ s ∷ [] → s.chair.me.0 ≡ v → s.chair.me.0.gone ≡ [] → v' ≡ having_taken (all_known l') v
      → v'.gone ++ known v' ∷ [] ≡ all_known l
  all_gone l l' s v v' is same none took =
      let e : v' ≡ having_taken (all_known l') s.chair.me.0 = took ∙ ap (having_taken (all_known l')) (sym same) in
      ap (λ (z : View B X C P). z.gone ++ known z ∷ []) e
      ∙ (ap (λ (z : List (Known B X C P)). (z ++ all_known l') ++ known_of s ∷ []) none
      ∙ (sym (map-append (λ seat. known_of seat) l' (s ∷ [])) ∙ ap all_known (sym is)))
