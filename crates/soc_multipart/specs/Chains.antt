-- Texts that hold one thing after another.
use Rattle.std.specs.Prelude.{◌≡◌, ℕ, List, [], ◌∷◌}

-- the text holds these things in order, each as the step says of the text from there on, and then rest
abbrev pub Chain : {A : Type 0} → (List ℕ → A → List ℕ → Type 0) → List ℕ → List A → List ℕ → Type 0
Chain step text [] rest = text ≡ rest
Chain step text (x ∷ xs) rest = (later : List ℕ) × step text x later × Chain step later xs rest

-- the text does not begin with such a thing
abbrev pub HasNoStep : {A : Type 0} → (List ℕ → A → List ℕ → Type 0) → List ℕ → Type 0
HasNoStep {A} step text = (x : A) (later : List ℕ) → ¬ (step text x later)
