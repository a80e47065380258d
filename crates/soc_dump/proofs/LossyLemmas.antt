-- How long the text is that is read lossily from bytes.
use Rattle.std.proofs.Common.{◌≡◌, ℕ, zero, suc, ◌+◌, ◌≤◌, Bool, true, false, List, ◌++◌, length, take, drop, Option, None, Some, cond, refl, arith}
use Rattle.std.specs.Prelude.{◌==◌, nat_lt, slice_index}
use Rattle.std.specs.Option.{unwrap_or}
use Rattle.std.specs.Int.{is_in_range}
use Rattle.std.specs.Str.Lossy.{second_byte_min, second_byte_max, error_len_after_two, error_len_after_one, error_len_of_some, utf8_error_len, utf8_invalid_len, utf8_valid_len, after_first_chunk, replacement_bytes, utf8_lossy_within, utf8_lossy}
use Rattle.std.proofs.lemmas.Bool.Decides.{nat_tests}
use Rattle.std.proofs.lemmas.List.{length-append, length-take, length-drop}
use Rattle.std.proofs.lemmas.Str.{utf8_valid_len_le}

-- of bytes that may be fewer than four
or_few : (b : Bool) (n m : ℕ) (o : Option ℕ) → nat_lt n m ≡ b → m ≤ 4 → unwrap_or o n ≤ 3 → unwrap_or (cond b None o) n ≤ 3
or_few true n m o below few rest = grind (arith, nat_tests)
or_few false n m o below few rest = rest

or_none : (b : Bool) (n : ℕ) (o : Option ℕ) → (n == 0) ≡ b → unwrap_or o n ≤ 3 → unwrap_or (cond b None o) n ≤ 3
or_none true n o none rest = grind (arith, nat_tests)
or_none false n o none rest = rest

either : (b : Bool) (n : ℕ) (o p : Option ℕ) → unwrap_or o n ≤ 3 → unwrap_or p n ≤ 3 → unwrap_or (cond b o p) n ≤ 3
either true n o p first second = first
either false n o p first second = second

-- U+FFFD stands for three bytes at most
invalid-length : (bytes : List ℕ) → utf8_invalid_len bytes ≤ 3
unfolding utf8_error_len
invalid-length bytes =
    let n = length bytes in
    let x = slice_index bytes 0 in
    let third = is_in_range 0x80 0xBF (slice_index bytes 2) in
    let second = is_in_range (second_byte_min x) (second_byte_max x) (slice_index bytes 1) in
    let after_three = or_few (nat_lt n 4) n 4 (Some 3) refl (omega arith) (omega arith) in
    let after_two : unwrap_or (error_len_after_two bytes) n ≤ 3 =
    or_few (nat_lt n 3) n 3 (cond third (cond (nat_lt n 4) None (Some 3)) (Some 2)) refl (omega arith) (either third n (cond (nat_lt n 4) None (Some 3)) (Some 2) after_three (omega arith)) in
    let after_one : unwrap_or (error_len_after_one bytes) n ≤ 3 =
    or_few (nat_lt n 2) n 2 (cond second (error_len_after_two bytes) (Some 1)) refl (omega arith) (either second n (error_len_after_two bytes) (Some 1) after_two (omega arith)) in
    or_none (n == 0) n (error_len_of_some bytes) refl (either (is_in_range 0xC2 0xF4 x) n (error_len_after_one bytes) (Some 1) after_one (omega arith))

text_or : (b : Bool) (bytes front rest : List ℕ) → length bytes ≤ length front + 3 + length rest → length bytes ≤ length (cond b bytes (front ++ (replacement_bytes ++ rest)))
text_or true bytes front rest enough = omega arith
text_or false bytes front rest enough = omega (arith, length-append front (replacement_bytes ++ rest), enough)

within-length : (k : ℕ) (bytes : List ℕ) → length bytes ≤ length (utf8_lossy_within k bytes)
within-length zero bytes = omega arith
within-length (suc k) bytes =
    let n = utf8_valid_len bytes in
    let rest = within-length k (after_first_chunk bytes) in
    let invalid = invalid-length (drop n bytes) in
    let enough : length bytes ≤ length (take n bytes) + 3 + length (utf8_lossy_within k (after_first_chunk bytes)) =
    omega (arith, rest, invalid, utf8_valid_len_le bytes, length-take n bytes, length-drop (n + utf8_invalid_len (drop n bytes)) bytes) in
    text_or (n == length bytes) bytes (take n bytes) (utf8_lossy_within k (after_first_chunk bytes)) enough

-- the text has no fewer bytes than what it is read from
pub lossy-length : (bytes : List ℕ) → length bytes ≤ length (utf8_lossy bytes)
unfolding utf8_lossy
lossy-length bytes = within-length (length bytes) bytes
