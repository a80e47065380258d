-- The first bytes from a gate on.
use Rattle.std.proofs.Common.{◌≡◌, ℕ, zero, suc, ◌-◌, ◌<◌, ◌≤◌, List, [], ◌∷◌, ◌++◌, length, take, drop, get_or, refl, sym, ◌∙◌, ap, subst, arith}
use Rattle.std.specs.Int.{from_le_bytes, to_le_bytes, w32}
use Rattle.std.proofs.lemmas.Nat.{le_bytes_4}
use Rattle.std.proofs.lemmas.List.{take_all, length-drop}
use Rattle.soc_journal.specs.Entries.{open_gate}
use Rattle.soc_journal.specs.inner.Gates.{entry_head}

four : (a b c d : ℕ) → a < 256 → b < 256 → c < 256 → d < 256 → (i : ℕ) → get_or (a ∷ b ∷ c ∷ d ∷ []) i 0 < 256
four a b c d p q r s zero = p
four a b c d p q r s (suc zero) = q
four a b c d p q r s (suc (suc zero)) = r
four a b c d p q r s (suc (suc (suc zero))) = s
four a b c d p q r s (suc (suc (suc (suc i)))) = omega arith

-- what stands behind an open gate is a kind and a number of four bytes
abbrev Opens : List ℕ → ℕ → List ℕ → Type 0
Opens bytes n behind =
    5 ≤ length behind → n ≡ from_le_bytes w32 (get_or behind 1 0 ∷ get_or behind 2 0 ∷ get_or behind 3 0 ∷ get_or behind 4 0 ∷ [])
    → (more : List ℕ) × (bytes ≡ entry_head (get_or behind 0 0) n ++ more)

opens : (bytes : List ℕ) (n : ℕ) → get_or bytes 0 0 ≡ open_gate → ((i : ℕ) → get_or bytes i 0 < 256) → Opens bytes n (drop 1 bytes)
opens [] n is fits long reads = absurd (omega arith)
opens (g ∷ []) n is fits long reads = absurd (omega arith)
opens (g ∷ k ∷ []) n is fits long reads = absurd (omega arith)
opens (g ∷ k ∷ a ∷ []) n is fits long reads = absurd (omega arith)
opens (g ∷ k ∷ a ∷ b ∷ []) n is fits long reads = absurd (omega arith)
opens (g ∷ k ∷ a ∷ b ∷ c ∷ []) n is fits long reads = absurd (omega arith)
opens (g ∷ k ∷ a ∷ b ∷ c ∷ d ∷ more) n is fits long reads =
    let digits : to_le_bytes w32 n ≡ a ∷ b ∷ c ∷ d ∷ [] = le_bytes_4 (a ∷ b ∷ c ∷ d ∷ []) n refl (four a b c d (fits 2) (fits 3) (fits 4) (fits 5)) reads in
    (more, ap (λ (x : ℕ). x ∷ k ∷ a ∷ b ∷ c ∷ d ∷ more) is ∙ ap (λ (x : List ℕ). open_gate ∷ k ∷ (x ++ more)) (sym digits))

pub front_opens : (bytes : List ℕ) (n : ℕ) → get_or bytes 0 0 ≡ open_gate → ((i : ℕ) → get_or bytes i 0 < 256) → Opens bytes n (take (length bytes - 1) (drop 1 bytes))
front_opens bytes n is fits =
    let all : take (length bytes - 1) (drop 1 bytes) ≡ drop 1 bytes = take_all (length bytes - 1) (drop 1 bytes) (omega (arith, length-drop 1 bytes)) in
    subst (Opens bytes n) (sym all) (opens bytes n is fits)
