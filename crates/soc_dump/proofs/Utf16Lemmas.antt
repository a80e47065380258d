-- Units of UTF-16, and how long the texts are that they stand for.
use Rattle.std.proofs.Common.{◌≡◌, ℕ, zero, suc, ◌+◌, ◌*◌, ◌/◌, ◌<◌, ◌≤◌, Bool, true, false, ◌&&◌, List, [], ◌∷◌, ◌++◌, length, drop, Some, cond, map, encode_utf8, encode_utf8_all, refl, arith}
use Rattle.std.specs.Prelude.{slice_index}
use Rattle.std.specs.Option.{unwrap_or}
use Rattle.std.specs.Char.{len_utf8}
use Rattle.std.specs.Char.Utf16.{is_high_surrogate, is_low_surrogate, lone_unit_char, surrogate_pair_char, utf16_chars}
use Rattle.std.proofs.lemmas.Str.{length-encode, len_utf8_bounds}
use Rattle.std.proofs.lemmas.Bool.Decides.{nat_tests}
use Rattle.std.proofs.lemmas.List.{length-append}
use Rattle.byteorder.specs.Endian.{little_number}
use Rattle.soc_dump.specs.Entries.{units, utf16_text}

pub units-length : (bytes : List ℕ) → length (units bytes) ≡ length bytes / 2
units-length [] = refl
units-length (low ∷ []) = refl
units-length (low ∷ high ∷ bytes) = let fewer = units-length bytes in omega (arith, fewer)

pub units-drop : (bytes : List ℕ) (n : ℕ) → units (drop (n * 2) bytes) ≡ drop n (units bytes)
units-drop bytes zero = refl
units-drop [] (suc n) = let two : suc n * 2 ≡ suc (suc (n * 2)) = omega arith in rw two refl
units-drop (low ∷ []) (suc n) = let two : suc n * 2 ≡ suc (suc (n * 2)) = omega arith in rw two refl
units-drop (low ∷ high ∷ bytes) (suc n) = let two : suc n * 2 ≡ suc (suc (n * 2)) = omega arith in rw two (units-drop bytes n)

pub units-at : (bytes : List ℕ) (n : ℕ) → n * 2 + 1 < length bytes → little_number 2 (drop (n * 2) bytes) ≡ slice_index (units bytes) n
units-at [] n within = absurd (omega arith)
units-at (low ∷ []) n within = absurd (omega arith)
units-at (low ∷ high ∷ bytes) zero within = omega arith
units-at (low ∷ high ∷ bytes) (suc n) within =
    let two : suc n * 2 ≡ suc (suc (n * 2)) = omega arith in rw two (units-at bytes n (omega arith))

-- a character has a byte or more
some_bytes : (c : ℕ) (more : List ℕ) → length more + 1 ≤ length (encode_utf8 c ++ more)
some_bytes c more = omega (arith, length-append (encode_utf8 c) more, length-encode c, (len_utf8_bounds c).0)

four_bytes : (c : ℕ) → 0x1_0000 ≤ c → len_utf8 c ≡ 4
four_bytes c from = grind (arith, nat_tests)

-- a pair's character has four bytes
pair_bytes : (u v : ℕ) (more : List ℕ) → length more + 4 ≤ length (encode_utf8 (surrogate_pair_char u v) ++ more)
pair_bytes u v more =
    let c = surrogate_pair_char u v in
    let four = four_bytes c (omega arith) in
    omega (arith, length-append (encode_utf8 c) more, length-encode c, four)

-- of the characters of two units and more
chosen : (u v : ℕ) (more : List ℕ) (b : Bool) → length more ≤ length (utf16_text more) → length (v ∷ more) ≤ length (utf16_text (v ∷ more))
    → length (u ∷ v ∷ more) ≤ length (encode_utf8_all (map (λ o. unwrap_or o 0xFFFD) (cond b (Some (surrogate_pair_char u v) ∷ utf16_chars more) (lone_unit_char u ∷ utf16_chars (v ∷ more)))))
chosen u v more true rest others = let pair = pair_bytes u v (utf16_text more) in omega (arith, pair, rest)
chosen u v more false rest others = let one = some_bytes (unwrap_or (lone_unit_char u) 0xFFFD) (utf16_text (v ∷ more)) in omega (arith, one, others)

-- a text has no fewer bytes than units
pub text-length : (found : List ℕ) → length found ≤ length (utf16_text found)
unfolding utf16_chars
text-length [] = omega arith
text-length (u ∷ []) = some_bytes (unwrap_or (lone_unit_char u) 0xFFFD) []
text-length (u ∷ v ∷ more) = chosen u v more (is_high_surrogate u && is_low_surrogate v) (text-length more) (text-length (v ∷ more))
