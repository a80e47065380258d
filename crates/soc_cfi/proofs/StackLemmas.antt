-- Stacks of some length.
use Rattle.std.proofs.Common.{◌≡◌, ◌≢◌, ℕ, List, [], ◌∷◌, length, refl}
use Rattle.std.specs.Prelude.{None}
use Rattle.soc_cfi.specs.Postfix.{only_value}

pub only_none : (stack : List ℕ) → length stack ≢ 1 → None ≡ only_value stack
only_none [] other = refl
only_none (value ∷ []) other = absurd (other refl)
only_none (value ∷ below ∷ stack) other = refl
