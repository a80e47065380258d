-- A list that was made of pieces, one behind the other.
use Rattle.std.proofs.Common.{◌≡◌, ℕ, List, ◌++◌, append_assoc, ap, ◌∙◌}

pub two-pieces : (a b c p q : List ℕ) → b ≡ a ++ p → c ≡ b ++ q → c ≡ a ++ (p ++ q)
two-pieces a b c p q e f = f ∙ (ap (λ (l : List ℕ). l ++ q) e ∙ append_assoc a p q)

pub four-pieces : (a b c d e p q r s : List ℕ) → b ≡ a ++ p → c ≡ b ++ q → d ≡ c ++ r → e ≡ d ++ s → e ≡ a ++ (p ++ (q ++ (r ++ s)))
four-pieces a b c d e p q r s f g h k = two-pieces a b e p (q ++ (r ++ s)) f (two-pieces b c e q (r ++ s) g (two-pieces c d e r s h k))

pub five-pieces : (a b c d e f p q r s t : List ℕ) → b ≡ a ++ p → c ≡ b ++ q → d ≡ c ++ r → e ≡ d ++ s → f ≡ e ++ t → f ≡ a ++ (p ++ (q ++ (r ++ (s ++ t))))
five-pieces a b c d e f p q r s t g h k m n = two-pieces a b f p (q ++ (r ++ (s ++ t))) g (four-pieces b c d e f q r s t h k m n)
