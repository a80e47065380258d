-- How many brackets stand open tells whether any does.
use Rattle.std.proofs.Common.{◌≡◌, ℕ, ◌+◌, ◌-◌, Bool, true, false, cond, ◌&&◌, nat_eq, nat_lt, List, [], ◌∷◌, refl, ap, sym, ◌∙◌, arith}
use Rattle.std.proofs.lemmas.Bool.Decides.{nat_tests}
use Rattle.soc_frames.specs.declared.depth.Depth.{Depth}
use Rattle.soc_frames.specs.declared.walk.Place.{Place}
use Rattle.soc_frames.specs.Depth.{Bracket, angle, round, has_round, without_angle, behind_round, without_round, open_after, is_outer, open_angle, close_angle, open_round, close_round}
use Rattle.soc_frames.specs.inner.Counts.{rounds_in, angles_in, depth_of, is_none, after_place}

abbrev made : ℕ → ℕ → Depth
made angles rounds = record { angles = angles; rounds = rounds }

more_than_none : (n : ℕ) → nat_lt 0 (n + 1) ≡ true
more_than_none n = grind (arith, nat_tests)

not_none : (n : ℕ) → nat_eq (n + 1) 0 ≡ false
not_none n = grind (arith, nat_tests)

some_is_not_none : (n : ℕ) → nat_lt 0 n ≡ true → nat_eq n 0 ≡ false
some_is_not_none n some = grind (arith, nat_tests)

none_more : (n : ℕ) → nat_lt 0 n ≡ false → n ≡ n - 1
none_more n none = grind (arith, nat_tests)

one_less : (n : ℕ) → n ≡ n + 1 - 1
one_less n = omega arith

has_round-rounds : (b : List Bracket) → has_round b ≡ nat_lt 0 (rounds_in b)
has_round-rounds [] = refl
has_round-rounds (angle ∷ b) = has_round-rounds b
has_round-rounds (round ∷ b) = sym (more_than_none (rounds_in b))

one_more : (some : Bool) (m n : ℕ) → made (cond some m (m + 1)) n ≡ cond some (made m n) (made (m + 1) n)
one_more true m n = refl
one_more false m n = refl

and_back : (some : Bool) (m n : ℕ) → made m n ≡ cond some (made (cond some m (m + 1)) n) (made (cond some m (m + 1) - 1) n)
and_back true m n = refl
and_back false m n = ap (λ k. made k n) (one_less m)

closed_angle : (b : List Bracket) → depth_of (without_angle b) ≡ cond (nat_lt 0 (rounds_in b)) (depth_of b) (made (angles_in b - 1) (rounds_in b))
closed_angle [] = refl
closed_angle (angle ∷ b) = and_back (nat_lt 0 (rounds_in b)) (angles_in b) (rounds_in b)
closed_angle (round ∷ b) =
    ap (λ some. cond some (depth_of (round ∷ b)) (made (angles_in b - 1) (rounds_in b + 1))) (sym (more_than_none (rounds_in b)))

behind_some : (b : List Bracket) → has_round b ≡ true → depth_of (behind_round b) ≡ made (angles_in b) (rounds_in b - 1)
behind_some [] h = cc
behind_some (angle ∷ b) h =
    behind_some b h ∙ ap (λ some. made (cond some (angles_in b) (angles_in b + 1)) (rounds_in b - 1)) (sym (sym (has_round-rounds b) ∙ h))
behind_some (round ∷ b) h = ap (made (angles_in b)) (one_less (rounds_in b))

closed_round : (b : List Bracket) (some : Bool) → has_round b ≡ some → depth_of (cond some (behind_round b) b) ≡ made (angles_in b) (rounds_in b - 1)
closed_round b true h = behind_some b h
closed_round b false h = ap (made (angles_in b)) (none_more (rounds_in b) (sym (has_round-rounds b) ∙ h))

chosen : (b : List Bracket) (plain opens_angle opens_round closes_angle closes_round : Bool)
    → depth_of (cond plain b (cond opens_angle (angle ∷ b) (cond opens_round (round ∷ b) (cond closes_angle (without_angle b) (cond closes_round (without_round b) b)))))
    ≡ cond plain (depth_of b) (cond opens_angle (cond (nat_lt 0 (rounds_in b)) (depth_of b) (made (angles_in b + 1) (rounds_in b))) (cond opens_round (made (angles_in b) (rounds_in b + 1)) (cond closes_angle (cond (nat_lt 0 (rounds_in b)) (depth_of b) (made (angles_in b - 1) (rounds_in b))) (cond closes_round (made (angles_in b) (rounds_in b - 1)) (depth_of b)))))
chosen b true opens_angle opens_round closes_angle closes_round = refl
chosen b false true opens_round closes_angle closes_round = one_more (nat_lt 0 (rounds_in b)) (angles_in b) (rounds_in b)
chosen b false false true closes_angle closes_round = refl
chosen b false false false true closes_round = closed_angle b
chosen b false false false false true = closed_round b (has_round b) refl
chosen b false false false false false = refl

pub depth_of-open_after : (b : List Bracket) (place : Place) → depth_of (open_after b place) ≡ after_place (depth_of b) place
depth_of-open_after b place =
    chosen b place.is_plain (nat_eq place.byte open_angle) (nat_eq place.byte open_round) (nat_eq place.byte close_angle) (nat_eq place.byte close_round)

and_false : (s t : Bool) → t ≡ false → false ≡ (s && t)
and_false true t e = sym e
and_false false t e = refl

angle_stands : (b : List Bracket) (some : Bool) → nat_lt 0 (rounds_in b) ≡ some → false ≡ (nat_eq (cond some (angles_in b) (angles_in b + 1)) 0 && nat_eq (rounds_in b) 0)
angle_stands b true e = and_false (nat_eq (angles_in b) 0) (nat_eq (rounds_in b) 0) (some_is_not_none (rounds_in b) e)
angle_stands b false e = ap (λ s. s && nat_eq (rounds_in b) 0) (sym (not_none (angles_in b)))

pub is_none-depth_of : (b : List Bracket) → is_none (depth_of b) ≡ is_outer b
is_none-depth_of [] = refl
is_none-depth_of (angle ∷ b) = sym (angle_stands b (nat_lt 0 (rounds_in b)) refl)
is_none-depth_of (round ∷ b) = sym (and_false (nat_eq (angles_in b) 0) (nat_eq (rounds_in b + 1) 0) (not_none (rounds_in b)))
