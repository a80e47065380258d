-- Facts on clauses, lists and runs that every reader of this crate needs.
use Rattle.std.proofs.Common.{◌≡◌, ℕ, ◌<◌, ◌≤◌, List, [], ◌∷◌, ◌++◌, length, take, drop, get_or, Bool, true, false, sym, refl, ap, ◌∙◌, subst, arith, add-zero, MatchOption, MatchBool, IsTrue, ◌↔◌, ◌==◌, Option, Some, None}
use Rattle.std.specs.List.{prefix_len, AllPass}
use Rattle.std.proofs.lemmas.Bool.Decides.{nat_tests}
use Rattle.std.proofs.lemmas.List.{append_cancel_left, append_cancel_right, take-append-drop, length-take, length-drop, get_or-take, get_or-drop}
use Rattle.std.proofs.lemmas.List.Elements.{All-head, All-tail}
use Rattle.std.proofs.lemmas.List.Sums.{prefix_len_passes, prefix_len_stops, prefix_len-le-length}
use Rattle.soc_multipart.specs.Delimiters.{PartsRun}

-- a clause by cases on an option says less where each case says less
pub match_weaker : {X : Type 0} (r : Option X) (P P' : Type 0) (Q Q' : X → Type 0) → MatchOption r P Q → (P → P') → ((x : X) → Q x → Q' x) → MatchOption r P' Q'
match_weaker None P P' Q Q' h f g = f h
match_weaker (Some x) P P' Q Q' h f g = g x h

-- what a test that is exact says, by its answer
pub from_yes : (r : Bool) {P : Type 0} → (IsTrue r ↔ P) → r ≡ true → P
from_yes r h e = h.0 e

pub from_no : (r : Bool) {P : Type 0} → (IsTrue r ↔ P) → r ≡ false → ¬ P
from_no r h e p = let is : r ≡ true = h.1 p in cc

-- a list that goes on behind a front goes on in one way
pub missed_behind : (t a r : List ℕ) → t ≡ a ++ r → (s : List ℕ) → ¬ (r ≡ s) → ¬ (t ≡ a ++ s)
missed_behind t a r e s h f = h (append_cancel_left a r s (sym e ∙ f))

-- the same before a back
pub missed_before : (t a r : List ℕ) → t ≡ r ++ a → (s : List ℕ) → ¬ (r ≡ s) → ¬ (t ≡ s ++ a)
missed_before t a r e s h f = h (append_cancel_right r s a (sym e ∙ f))

-- the rest of a text does not begin with a byte that passes the test
abbrev pub Stops : (ℕ → Bool) → List ℕ → Type 0
Stops test rest = (b : ℕ) (more : List ℕ) → rest ≡ b ∷ more → test b ≡ false

pub stops_nil : (test : ℕ → Bool) → Stops test []
stops_nil test b more e = absurd (let no : ⊥ = cc in no)

pub stops_cons : (test : ℕ → Bool) (c : ℕ) (rest : List ℕ) → test c ≡ false → Stops test (c ∷ rest)
stops_cons test c rest h b more e = let same : c ≡ b = cc in subst (λ x. test x ≡ false) same h

-- a text has one run at its front
pub run_once : (test : ℕ → Bool) (r r' s s' : List ℕ) → r ++ s ≡ r' ++ s' → AllPass test r → AllPass test r' → Stops test s → Stops test s' → (r ≡ r') × (s ≡ s')
run_once test [] [] s s' e h h' t t' = (refl, e)
run_once test [] (x ∷ r') s s' e h h' t t' =
    let bad : test x ≡ false = t x (r' ++ s') e in
    let good : test x ≡ true = All-head (λ y. test y ≡ true) x r' h' in
    absurd (let no : ⊥ = cc in no)
run_once test (x ∷ r) [] s s' e h h' t t' =
    let bad : test x ≡ false = t' x (r ++ s) (sym e) in
    let good : test x ≡ true = All-head (λ y. test y ≡ true) x r h in
    absurd (let no : ⊥ = cc in no)
run_once test (x ∷ r) (y ∷ r') s s' e h h' t t' =
    let same : x ≡ y = cc in
    let rest : r ++ s ≡ r' ++ s' = cc in
    let both : (r ≡ r') × (s ≡ s') = run_once test r r' s s' rest (All-tail (λ z. test z ≡ true) x r h) (All-tail (λ z. test z ≡ true) y r' h') t t' in
    (let first : (r ≡ r') = both.0 in cc, both.1)

pub parts_once : (test : ℕ → Bool) (t r s r' s' : List ℕ) → PartsRun test t r s → t ≡ r' ++ s' → AllPass test r' → Stops test s' → (r ≡ r') × (s ≡ s')
parts_once test t r s r' s' p e h st = run_once test r r' s s' (sym p.whole ∙ e) p.passes h p.stops st

-- the run that `prefix_len` measures
pub parts_run : (test : ℕ → Bool) (t r s : List ℕ) (n : ℕ) → n ≡ prefix_len test t → r ≡ take n t → s ≡ drop n t → PartsRun test t r s
parts_run test t r s n e f g =
    let l : n ≤ length t = rw e (prefix_len-le-length test t) in
    record {
      whole = sym (take-append-drop n t) ∙ (ap (λ x. x ++ drop n t) (sym f) ∙ ap (λ x. r ++ x) (sym g));
      passes = rw f (λ k d h.
          let below : k < n = omega (arith, length-take n t) in
          let inside : k < prefix_len test t = rw (← e) below in
          rw (get_or-take n t k d below) (prefix_len_passes test t k d inside));
      stops = λ b more is.
          let long : n < length t = omega (arith, length-drop n t, ap length (sym g ∙ is)) in
          let inside : prefix_len test t < length t = rw (← e) long in
          let at : get_or t n 0 ≡ b = sym (ap (λ x. get_or t x 0) (add-zero n)) ∙ (sym (get_or-drop n t 0 0) ∙ ap (λ x. get_or x 0 0) (sym g ∙ is)) in
          subst (λ x. test x ≡ false) (ap (λ x. get_or t x 0) (sym e) ∙ at) (prefix_len_stops test t 0 inside);
    }

-- a clause by cases on a test
pub match_bool_yes : (b : Bool) (P Q : Type 0) → MatchBool b P Q → b ≡ true → P
match_bool_yes b P Q h e = subst (λ (x : Bool). MatchBool x P Q) e h

pub match_bool_no : (b : Bool) (P Q : Type 0) → MatchBool b P Q → b ≡ false → Q
match_bool_no b P Q h e = subst (λ (x : Bool). MatchBool x P Q) e h

-- a clause by cases on an option that is None
pub match_none : {X : Type 0} (r : Option X) (P : Type 0) (Q : X → Type 0) → MatchOption r P Q → r ≡ None → P
match_none r P Q h e = subst (λ (x : Option _). MatchOption x P Q) e h

pub match_some : {X : Type 0} (r : Option X) (P : Type 0) (Q : X → Type 0) (x : X) → MatchOption r P Q → r ≡ Some x → Q x
match_some r P Q x h e = subst (λ (y : Option _). MatchOption y P Q) e h

-- what `is_empty` says
pub zero_from_test : (n : ℕ) (b : Bool) → b ≡ (n == 0) → b ≡ true → n ≡ 0
zero_from_test n b e f = grind (arith, nat_tests)

pub some_from_test : (n : ℕ) (b : Bool) → b ≡ (n == 0) → b ≡ false → n ≡ 0 → ⊥
some_from_test n b e f g = grind (arith, nat_tests)
