-- Chains of steps: one more at the end, and that a text has one chain only where each step has one outcome.
use Rattle.std.proofs.Common.{◌≡◌, ℕ, List, [], ◌∷◌, ◌++◌, sym, refl, ◌∙◌, subst}
use Rattle.soc_multipart.specs.Chains.{Chain, HasNoStep}

pub chain_push : {A : Type 0} (step : List ℕ → A → List ℕ → Type 0) (t : List ℕ) (xs : List A) (m : List ℕ) (x : A) (r : List ℕ) → Chain step t xs m → step m x r → Chain step t (xs ++ x ∷ []) r
chain_push step t [] m x r e h = (r, subst (λ (y : List ℕ). step y x r) (sym e) h, refl)
chain_push step t (y ∷ ys) m x r (later, first, more) h = (later, first, chain_push step later ys m x r more h)

pub chain_end : {A : Type 0} (step : List ℕ → A → List ℕ → Type 0) (t : List ℕ) (xs : List A) (r s : List ℕ) → r ≡ s → Chain step t xs r → Chain step t xs s
chain_end step t xs r s e h = subst (λ (y : List ℕ). Chain step t xs y) e h

-- a chain that ends where no step begins is a front of no longer one
pub chain_once : {A : Type 0} (step : List ℕ → A → List ℕ → Type 0) → ((t : List ℕ) (x y : A) (r s : List ℕ) → step t x r → step t y s → (x ≡ y) × (r ≡ s))
    → (t : List ℕ) (xs ys : List A) (r s : List ℕ) → Chain step t xs r → HasNoStep step r → Chain step t ys s → HasNoStep step s → (xs ≡ ys) × (r ≡ s)
chain_once step once t [] [] r s e h f k = (refl, sym e ∙ f)
chain_once step once t [] (y ∷ ys) r s e h (later, first, more) k =
    absurd (h y later (subst (λ (z : List ℕ). step z y later) e first))
chain_once step once t (x ∷ xs) [] r s (later, first, more) h f k =
    absurd (k x later (subst (λ (z : List ℕ). step z x later) f first))
chain_once step once t (x ∷ xs) (y ∷ ys) r s (later, first, more) h (later', first', more') k =
    let same : (x ≡ y) × (later ≡ later') = once t x y later later' first first' in
    let rest : (xs ≡ ys) × (r ≡ s) =
    chain_once step once later xs ys r s more h (subst (λ (z : List ℕ). Chain step z ys s) (sym same.1) more') k in
    (let heads : x ≡ y = same.0 in let tails : xs ≡ ys = rest.0 in cc, rest.1)

-- a chain that comes to its end is no longer than one that goes on from there
pub chain_goes_on : {A : Type 0} (step : List ℕ → A → List ℕ → Type 0) → ((t : List ℕ) (x y : A) (r s : List ℕ) → step t x r → step t y s → (x ≡ y) × (r ≡ s))
    → (t : List ℕ) (xs ys : List A) (r s : List ℕ) → Chain step t xs r → Chain step t ys s → HasNoStep step s → (zs : List A) × (ys ≡ xs ++ zs) × Chain step r zs s
chain_goes_on step once t [] ys r s e more k = (ys, refl, subst (λ (z : List ℕ). Chain step z ys s) e more)
chain_goes_on step once t (x ∷ xs) [] r s (later, first, more) f k =
    absurd (k x later (subst (λ (z : List ℕ). step z x later) f first))
chain_goes_on step once t (x ∷ xs) (y ∷ ys) r s (later, first, more) (later', first', more') k =
    let same : (x ≡ y) × (later ≡ later') = once t x y later later' first first' in
    let rest : (zs : List _) × (ys ≡ xs ++ zs) × Chain step r zs s =
    chain_goes_on step once later xs ys r s more (subst (λ (z : List ℕ). Chain step z ys s) (sym same.1) more') k in
    (rest.0, let heads : x ≡ y = same.0 in let tails : ys ≡ xs ++ rest.0 = rest.1 in cc, rest.2)

pub chain_grow : {A : Type 0} (step : List ℕ → A → List ℕ → Type 0) (t : List ℕ) (xs : List A) (m : List ℕ) (x : A) (r : List ℕ) (now : List A)
    → Chain step t xs m → step m x r → now ≡ xs ++ x ∷ [] → Chain step t now r
chain_grow step t xs m x r now h k e =
    subst (λ (ys : List _). Chain step t ys r) (sym e) (chain_push step t xs m x r h k)
