-- Names and rules.
use Rattle.std.proofs.Common.{◌≡◌, ◌==◌, ℕ, true, false, List, length, Some, None, refl, sym, ◌∙◌, ap, arith}
use Rattle.std.specs.Str.{IsUtf8, is_utf8}
use Rattle.std.proofs.lemmas.Str.{is_utf8-from_IsUtf8, IsUtf8-from_is_utf8}
use Rattle.std.proofs.lemmas.Bool.Decides.{nat_tests}
use Rattle.soc_symfile.specs.Words.{text_of}

pub text_of-empty : (bytes : List ℕ) → true ≡ (length bytes == 0) → text_of bytes ≡ None
unfolding text_of
text_of-empty bytes empty = grind (arith, nat_tests)

pub text_of-text : (bytes : List ℕ) → false ≡ (length bytes == 0) → IsUtf8 bytes → text_of bytes ≡ Some bytes
unfolding text_of
text_of-text bytes some utf8 = let test = is_utf8-from_IsUtf8 bytes utf8 in grind (arith, nat_tests)

pub text_of-bytes : (bytes : List ℕ) → ¬ (IsUtf8 bytes) → text_of bytes ≡ None
unfolding text_of
text_of-bytes bytes bad =
    let test : is_utf8 bytes ≡ false = elim (is_utf8 bytes) as (λ b. is_utf8 bytes ≡ b → is_utf8 bytes ≡ false)
    [ true ↦ λ e. absurd (bad (IsUtf8-from_is_utf8 bytes e)) | false ↦ λ e. e ] refl in
    grind (arith, nat_tests)

pub some_bytes : (bytes text : List ℕ) → false ≡ (length bytes == 0) → (text ≡ bytes) × IsUtf8 bytes → Some text ≡ text_of bytes
some_bytes bytes text some is = ap Some is.0 ∙ sym (text_of-text bytes some is.1)
