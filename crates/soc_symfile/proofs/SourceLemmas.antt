-- A line that begins with an address, and one that doesn't.
use Rattle.std.proofs.Common.{◌≡◌, ℕ, true, false, List, Some, None, refl, sym, ◌∙◌, ap, codes}
use Rattle.std.specs.Str.{bytes_eq}
use Rattle.std.proofs.lemmas.Bool.{false_from_ne_true}
use Rattle.std.proofs.lemmas.Slice.Eq.{bytes_eq-Decides}
use Rattle.soc_symfile.specs.Line.{line_of, source_line}
use Rattle.soc_symfile.specs.Words.{word, rest, is_numeral, hexadecimal}
use Rattle.soc_symfile.specs.inner.Sources.{source_behind, record_line}
use Rattle.soc_symfile.proofs.NumberLemmas.{hexadecimal-numeral}

-- a word that isn't digits alone is no numeral
other_word : (bytes name : List ℕ) → is_numeral 16 name ≡ false → is_numeral 16 bytes ≡ true → bytes_eq bytes name ≡ false
other_word bytes name no_digits digits = false_from_ne_true (bytes_eq bytes name)
    (λ same. let is = (bytes_eq-Decides bytes name).0 same in let both : true ≡ false = sym digits ∙ ap (is_numeral 16) is ∙ no_digits in cc)

pub line_of-source : (line : List ℕ) (address : ℕ) → Some address ≡ hexadecimal (word line) → source_behind address (rest line) ≡ line_of line
unfolding line_of source_line
line_of-source line address is =
    let digits = hexadecimal-numeral (word line) address is in
    let file = other_word (word line) (codes "FILE") refl digits in
    let function = other_word (word line) (codes "FUNC") refl digits in
    let symbol = other_word (word line) (codes "PUBLIC") refl digits in
    let stack = other_word (word line) (codes "STACK") refl digits in
    rw (file, function, symbol, stack, digits, ← is) refl

pub line_of-record : (line : List ℕ) → None ≡ hexadecimal (word line) → record_line (word line) (rest line) ≡ line_of line
unfolding line_of source_line record_line
line_of-record line none = rw (← none) refl
