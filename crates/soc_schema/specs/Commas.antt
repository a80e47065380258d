-- Texts with commas between them, as in JSON (RFC 8259).
use Rattle.std.specs.Prelude.{ℕ, List, [], ◌∷◌, ◌++◌, nat_lt, if◌then◌else◌, codes}

-- texts with a comma before each
abbrev pub after_commas : {A : Type 0} → (A → List ℕ) → List A → List ℕ
after_commas text [] = []
after_commas text (x ∷ xs) = codes "," ++ text x ++ after_commas text xs

-- a comma, where something stands before
abbrev pub comma_after : ℕ → List ℕ
comma_after before = if nat_lt 0 before then codes "," else []

-- texts with commas between them
abbrev pub joined : {A : Type 0} → (A → List ℕ) → List A → List ℕ
joined text [] = []
joined text (x ∷ xs) = text x ++ after_commas text xs
