-- Pieces of a text, put one after another.
use Rattle.std.proofs.Common.{◌≡◌, ℕ, List, ◌++◌, ap, ◌∙◌, append_assoc}

-- five pieces, put one after another
pub put_five : (out a b c d e p q r s t : List ℕ) → p ≡ out ++ a → q ≡ p ++ b → r ≡ q ++ c → s ≡ r ++ d → t ≡ s ++ e → t ≡ out ++ (a ++ b ++ c ++ d ++ e)
put_five out a b c d e p q r s t first second third fourth fifth =
    let two : q ≡ out ++ (a ++ b) = second ∙ ap (λ l. l ++ b) first ∙ append_assoc out a b in
    let three : r ≡ out ++ (a ++ b ++ c) = third ∙ ap (λ l. l ++ c) two ∙ append_assoc out (a ++ b) c in
    let four : s ≡ out ++ (a ++ b ++ c ++ d) = fourth ∙ ap (λ l. l ++ d) three ∙ append_assoc out (a ++ b ++ c) d in
    fifth ∙ ap (λ l. l ++ e) four ∙ append_assoc out (a ++ b ++ c ++ d) e
