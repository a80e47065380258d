-- Where the content of a crash stands in its record.
use Rattle.std.proofs.Common.{◌≡◌, ◌≤◌, ℕ, ◌-◌, min, List, length, take, drop, ◌∙◌, ap, arith}
use Rattle.soc_book.proofs.Words.{length-drop, take_all, Crash, head_text, content_text, record_of, record_length, content_at}

pub head_within : (raw : Crash) (text : List ℕ) → text ≡ record_of raw → length (head_text raw) ≤ length text
head_within raw text whole =
    let same = ap (λ (x : List ℕ). length x) whole in
    omega (arith, same, record_length raw)

pub content_behind : (raw : Crash) (text : List ℕ) (content place : ℕ) → text ≡ record_of raw → content ≡ length (head_text raw) → place ≡ min (length text) content
    → take (length text - place) (drop place text) ≡ content_text raw
content_behind raw text content place whole is at =
    let within = head_within raw text whole in
    let same : place ≡ length (head_text raw) = omega (arith, within, is, at) in
    take_all (length text - place) (drop place text) (omega (arith, length-drop place text))
    ∙ (ap (λ (x : List ℕ). drop place x) whole ∙ content_at raw place same)
