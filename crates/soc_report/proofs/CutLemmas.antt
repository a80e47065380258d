-- The place where a text is cut.
use Rattle.std.proofs.Common.{◌≡◌, ℕ, zero, suc, ◌-◌, ◌<◌, ◌≤◌, Bool, true, false, if◌then◌else◌, List, take, refl, ap, ◌∙◌, subst, arith}
use Rattle.std.specs.Str.{IsCharBoundary}
use Rattle.std.proofs.lemmas.Bool.Decides.{nat_tests}
use Rattle.soc_report.specs.Cuts.{cut_text, is_boundary, last_boundary}

boundary : (text : List ℕ) (place : ℕ) → is_boundary text place ≡ true → IsCharBoundary text place
boundary text place is = grind (arith, nat_tests)

no_boundary : (text : List ℕ) (place : ℕ) → is_boundary text place ≡ false → ¬ (IsCharBoundary text place)
no_boundary text place is at = grind (arith, nat_tests)

-- the last boundary up to one more place
next : (text : List ℕ) (n place : ℕ) (b : Bool) → is_boundary text (suc n) ≡ b → place ≤ suc n → IsCharBoundary text place → ((i : ℕ) → place < i → i ≤ suc n → ¬ (IsCharBoundary text i))
    → (place ≤ n → last_boundary text n ≡ place) → (if b then suc n else last_boundary text n) ≡ place
next text n place true is low at nearest before =
    let reached : ¬ (place < suc n) = λ less. nearest (suc n) less (omega arith) (boundary text (suc n) is) in
    omega (arith, reached)
next text n place false is low at nearest before =
    let other : ¬ (place ≡ suc n) = λ e. no_boundary text (suc n) is (subst (IsCharBoundary text) e at) in
    before (omega (arith, other))

last_is : (text : List ℕ) (n place : ℕ) → place ≤ n → IsCharBoundary text place → ((i : ℕ) → place < i → i ≤ n → ¬ (IsCharBoundary text i)) → last_boundary text n ≡ place
unfolding last_boundary
last_is text zero place low at nearest = omega arith
last_is text (suc n) place low at nearest =
    next text n place (is_boundary text (suc n)) refl low at nearest (λ lower. last_is text n place lower at (λ i above within. nearest i above (omega arith)))

pub cut_is : (text cut : List ℕ) (place : ℕ) → cut ≡ take (place - 0) text → place ≤ 1024 → IsCharBoundary text place → ((i : ℕ) → place < i → i ≤ 1024 → ¬ (IsCharBoundary text i)) → cut ≡ cut_text text
cut_is text cut place is low at nearest =
    let last = last_is text 1024 place low at nearest in
    let same : place - 0 ≡ last_boundary text 1024 = omega (arith, last) in
    is ∙ ap (λ n. take n text) same
