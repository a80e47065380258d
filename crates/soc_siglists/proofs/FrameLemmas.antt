-- The first frame that one of the patterns matches.
use Rattle.std.proofs.Common.{◌≡◌, ℕ, ◌+◌, ◌<◌, ◌≤◌, Bool, true, false, cond, List, [], length, get_or, Some, None, sym, ap, ◌∙◌, arith, inl, inr}
use Rattle.std.specs.Prelude.{slice_get, nat_lt}
use Rattle.std.specs.List.{position, position_or_len}
use Rattle.std.proofs.lemmas.Bool.{cases_lt}
use Rattle.std.proofs.lemmas.Bool.Decides.{nat_tests}
use Rattle.std.proofs.lemmas.List.Sums.{position_or_len_is}
use Rattle.std.proofs.lemmas.Option.{get_or_from_slice_get, slice_get_within}

pub first_here : (p : List ℕ → Bool) (frames : List (List ℕ)) (place : ℕ) (frame : List ℕ) → ((k : ℕ) (d : List ℕ) → k < place → p (get_or frames k d) ≡ false)
    → slice_get frames place ≡ Some frame → true ≡ p frame → Some place ≡ position p frames
first_here p frames place frame before there passes =
    let inside : place < length frames = slice_get_within frames place frame there in
    let same : get_or frames place frame ≡ frame = get_or_from_slice_get frames place frame frame there in
    let is : position_or_len p frames ≡ place =
    position_or_len_is p frames place frame (omega arith) (λ k below. before k frame below) (λ _. ap p same ∙ sym passes) in
    let test : nat_lt place (length frames) ≡ true = grind (arith, nat_tests) in
    sym (ap (λ n. cond (nat_lt n (length frames)) (Some n) None) is ∙ ap (λ b. cond b (Some place) None) test)

pub first_nowhere : (p : List ℕ → Bool) (frames : List (List ℕ)) (end : ℕ) → ((k : ℕ) (d : List ℕ) → k < end → p (get_or frames k d) ≡ false) → length frames ≤ end
    → None ≡ position p frames
first_nowhere p frames end none past =
    let is : position_or_len p frames ≡ length frames =
    position_or_len_is p frames (length frames) ([]) (omega arith) (λ k below. none k [] (omega arith)) (λ within. absurd (omega arith)) in
    let test : nat_lt (length frames) (length frames) ≡ false = grind (arith, nat_tests) in
    sym (ap (λ n. cond (nat_lt n (length frames)) (Some n) None) is ∙ ap (λ b. cond b (Some (length frames)) None) test)

pub none_more : (p : List ℕ → Bool) (frames : List (List ℕ)) (place : ℕ) (frame : List ℕ) → ((k : ℕ) (d : List ℕ) → k < place → p (get_or frames k d) ≡ false)
    → slice_get frames place ≡ Some frame → false ≡ p frame → (k : ℕ) (d : List ℕ) → k < place + 1 → p (get_or frames k d) ≡ false
none_more p frames place frame before there fails k d below = elim (cases_lt k place) [
  | inl less ↦ before k d less
  | inr more ↦
      let is : k ≡ place = omega arith in
      ap (λ n. p (get_or frames n d)) is ∙ ap p (get_or_from_slice_get frames place frame d there) ∙ sym fails
]
