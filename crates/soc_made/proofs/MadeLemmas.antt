-- The body of a made crash and its message, piece by piece.
use Rattle.std.proofs.Common.{◌≡◌, ℕ, List, [], ◌++◌, ap, ◌∙◌, codes, length}
use Rattle.std.specs.Prelude.{decimal}
use Rattle.soc_made.specs.Dump.{dump}
use Rattle.soc_made.specs.Made.{made_id, made_digit, made_body, made_crash, message, part}
use Rattle.soc_made.proofs.Pieces.{four-pieces, five-pieces}

pub made_body-pieces : (seed k digit : ℕ) (id bytes : List ℕ) (a b c d e f : List ℕ) → id ≡ made_id seed k → digit ≡ made_digit seed k → bytes ≡ dump digit → a ≡ []
    → b ≡ a ++ part (codes "name=\"uuid\"") id → c ≡ b ++ part (codes "name=\"ProductName\"") (codes "Made") → d ≡ c ++ part (codes "name=\"Version\"") (codes "1")
    → e ≡ d ++ part (codes "name=\"upload_file_minidump\"; filename=\"d\"") bytes → f ≡ e ++ codes "--made--\r\n" → f ≡ made_body seed k
unfolding made_body
made_body-pieces seed k digit id bytes a b c d e f same which dumped none p q r s t =
    let all = five-pieces a b c d e f _ _ _ _ _ (p ∙ ap (λ (l : List ℕ). a ++ part (codes "name=\"uuid\"") l) same) q r
    (s ∙ ap (λ (l : List ℕ). d ++ part (codes "name=\"upload_file_minidump\"; filename=\"d\"") l) (dumped ∙ ap dump which)) t in
    all ∙ ap (λ (l : List ℕ). l ++ made_body seed k) none

pub made_crash-pieces : (seed k size : ℕ) (body digits a b c d e : List ℕ) → body ≡ made_body seed k → size ≡ length body → digits ≡ decimal size → a ≡ []
    → b ≡ a ++ codes "POST /submit HTTP/1.1\r\nHost: h\r\nContent-Type: multipart/form-data; boundary=made\r\nContent-Length: " → c ≡ b ++ digits
    → d ≡ c ++ codes "\r\n\r\n" → e ≡ d ++ body → e ≡ made_crash seed k
unfolding made_crash
made_crash-pieces seed k size body digits a b c d e same sized written none p q r s =
    let text : digits ≡ decimal (length body) = written ∙ ap decimal sized in
    let all = four-pieces a b c d e _ _ _ _ p (q ∙ ap (λ (l : List ℕ). b ++ l) text) r s in
    all ∙ (ap (λ (l : List ℕ). l ++ message body) none ∙ ap message same)
