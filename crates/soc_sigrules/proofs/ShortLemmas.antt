-- The first characters of a text, one piece more.
use Rattle.std.proofs.Common.{◌≡◌, ℕ, ◌+◌, ◌-◌, ◌≤◌, List, ◌++◌, sym, ap, ◌∙◌, arith}
use Rattle.soc_sigrules.specs.Chars.{char_count, first_chars}
use Rattle.soc_sigrules.proofs.CharLemmas.{first_chars-append, char_count-append, char_count-first}

pub room_left : (front text : List ℕ) (room count : ℕ) → count ≡ char_count front → front ≡ first_chars room text → count ≤ room
room_left front text room count is cut = omega (arith, ap char_count cut, char_count-first room text)

pub still_full : (most : ℕ) (old new front text : List ℕ) (room count : ℕ) → char_count old + room ≡ most → new ≡ old ++ front → count ≡ char_count front → front ≡ first_chars room text
    → char_count new + (room - count) ≡ most
still_full most old new front text room count full is counted cut =
    omega (arith, ap char_count is, char_count-append old front, room_left front text room count counted cut)

pub pushed : (most : ℕ) (old new front text : List ℕ) (room : ℕ) → char_count old + room ≡ most → new ≡ old ++ front → front ≡ first_chars room text → new ≡ first_chars most (old ++ text)
pushed most old new front text room full grown cut =
    let left : most - char_count old ≡ room = omega arith in
    grown ∙ ap (λ (xs : List ℕ). old ++ xs) (cut ∙ ap (λ n. first_chars n text) (sym left)) ∙ sym (first_chars-append most old text (omega arith))
