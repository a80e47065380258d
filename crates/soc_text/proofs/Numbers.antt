-- Numbers written in few digits fit a word.
use Rattle.std.proofs.Common.{◌≡◌, ℕ, ◌+◌, ◌-◌, ◌*◌, Bool, true, false, sym, ◌∙◌, ◌^◌, ◌<◌, ◌≤◌, List, length, take, get_or, arith, refl, lit<}
use Rattle.std.proofs.lemmas.List.{length-take-le}
use Rattle.std.proofs.lemmas.Int.Digits.{digits_value-lt, digits_value_more, digits_more}
use Rattle.std.proofs.Math.Nat.{pow-le-pow_right}
use Rattle.std.specs.Bool.{OnTrue}
use Rattle.std.specs.Int.{IsInRange}
use Rattle.std.proofs.lemmas.Bool.Decides.{nat_tests}
use Rattle.std.specs.Char.{digit_value, is_ascii_digit}
use Rattle.std.specs.Str.Parse.{digits_value, AllDigits}

-- up to 18 digits write a number below 10 ^ 18
pub few_digits : (bytes : List ℕ) (i : ℕ) → i < length bytes → length bytes ≤ 19 → AllDigits 10 (take i bytes) → digits_value 10 (take i bytes) < 10 ^ 18
few_digits bytes i inside few digits =
    let len : length (take i bytes) ≡ i = length-take-le i bytes (omega arith) in
    let below = rw len at (digits_value-lt 10 (take i bytes) digits) in
    let power : 10 ^ i ≤ 10 ^ 18 = pow-le-pow_right {n = 10} (lit< tt) {i = i} {j = 18} (omega arith) in
    omega arith

-- one digit more
pub next_digit : (bytes : List ℕ) (i value digit : ℕ) → i < length bytes → digit_value (get_or bytes i 0) < 10 → digit ≡ digit_value (get_or bytes i 0) → (value ≡ digits_value 10 (take i bytes)) × AllDigits 10 (take i bytes) → (value * 10 + digit ≡ digits_value 10 (take (i + 1) bytes)) × AllDigits 10 (take (i + 1) bytes)
next_digit bytes i value digit inside ten is so_far =
    (rw (digits_value_more 10 bytes i inside, so_far.0, is) refl, digits_more 10 bytes i inside so_far.1 ten)

pub where_true : (r : Bool) (P : Type 0) → r ≡ true → OnTrue r P → P
where_true true P e p = p
where_true false P e p = cc

pub digit_test : (b : ℕ) → IsInRange 48 57 b → is_ascii_digit b ≡ true
digit_test b range = grind (arith, nat_tests)

pub not_digit : (b : ℕ) (r : Bool) → r ≡ is_ascii_digit b → r ≡ false → ¬ (IsInRange 48 57 b)
not_digit b r is e range = let t : is_ascii_digit b ≡ true = digit_test b range in let clash : true ≡ false = sym t ∙ sym is ∙ e in cc

pub digit_worth : (b : ℕ) → is_ascii_digit b ≡ true → b - 48 ≡ digit_value b
digit_worth b digit = grind (arith, nat_tests)
