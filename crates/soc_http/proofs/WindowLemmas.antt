-- Bytes that are read behind the unread ones of a window.
use Rattle.std.proofs.Common.{◌≡◌, ℕ, ◌+◌, ◌≤◌, List, ◌++◌, length, take, drop, ap, ◌∙◌, arith}
use Rattle.std.proofs.lemmas.List.{length-take-le, drop-append-le}
use Rattle.std.proofs.Math.Seq.{take-add}

pub unread-grown : (w v : List ℕ) (s e n : ℕ) → s ≤ e → e ≤ length v → take e v ≡ take e w
    → drop s (take (e + n) v) ≡ drop s (take e w) ++ take n (drop e v)
unread-grown w v s e n ordered within front =
    let len : length (take e v) ≡ e = length-take-le e v within in
    ap (drop s) (take-add e n v)
    ∙ drop-append-le s (take e v) (take n (drop e v)) (omega arith)
    ∙ ap (λ l. drop s l ++ take n (drop e v)) front
