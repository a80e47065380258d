-- Numbers digit by digit.
use Rattle.std.proofs.Common.{◌≡◌, ◌==◌, ℕ, ◌+◌, ◌*◌, ◌^◌, ◌<◌, ◌≤◌, Bool, true, false, List, [], ◌∷◌, length, take, get_or, Some, None, refl, arith, lit<, zero, suc, take_all}
use Rattle.std.specs.Prelude.{nat_lt, nat_le, ◌&&◌, ◌||◌}
use Rattle.std.proofs.lemmas.Bool.{agree_below_at}
use Rattle.soc_symfile.specs.declared.numbers.TheConstants.{DIGITS}
use Rattle.std.specs.List.{list_all}
use Rattle.std.specs.Char.{digit_value}
use Rattle.std.specs.Str.Parse.{digits_value, digits_value_after, AllDigits}
use Rattle.std.proofs.lemmas.Bool.Decides.{nat_tests}
use Rattle.std.proofs.lemmas.Int.Digits.{digits_value-lt, digits_value_more, digits_more}
use Rattle.std.proofs.lemmas.List.{length-take-le}
use Rattle.std.proofs.lemmas.List.Folds.{list_all_at}
use Rattle.std.proofs.Math.Nat.{pow-le-pow_right}
use Rattle.soc_symfile.specs.Words.{is_numeral, hexadecimal, decimal_number}

abbrev digit_test : ℕ → ℕ → Bool
digit_test radix b = nat_lt (digit_value b) radix

pub all_digits-test : (radix : ℕ) (bytes : List ℕ) → AllDigits radix bytes → list_all (λ b. nat_lt (digit_value b) radix) bytes ≡ true
all_digits-test radix [] digits = refl
all_digits-test radix (b ∷ bytes) digits =
    let later = all_digits-test radix bytes digits.1 in let first = digits.0 in grind (arith, nat_tests)

below-test : (a b : ℕ) → b ≤ a → nat_lt a b ≡ false
below-test a b h = grind (arith, nat_tests)

-- what is no numeral
pub numeral-empty : (radix : ℕ) (bytes : List ℕ) → true ≡ (length bytes == 0) → is_numeral radix bytes ≡ false
numeral-empty radix bytes empty = grind (arith, nat_tests)

pub numeral-at : (radix : ℕ) (bytes : List ℕ) (i : ℕ) → i < length bytes → radix ≤ digit_value (get_or bytes i 0) → is_numeral radix bytes ≡ false
numeral-at radix bytes i inside bad =
    let all = list_all_at (λ b. nat_lt (digit_value b) radix) bytes i 0 inside (below-test _ radix bad) in grind (arith, nat_tests)

-- what is one
pub numeral-digits : (radix : ℕ) (bytes : List ℕ) → false ≡ (length bytes == 0) → AllDigits radix bytes → is_numeral radix bytes ≡ true
numeral-digits radix bytes some digits = let all = all_digits-test radix bytes digits in grind (arith, nat_tests)

pub hexadecimal-none : (bytes : List ℕ) → is_numeral 16 bytes ≡ false → None ≡ hexadecimal bytes
unfolding hexadecimal
hexadecimal-none bytes none = rw none refl

pub hexadecimal-long : (bytes : List ℕ) → 16 < length bytes → None ≡ hexadecimal bytes
unfolding hexadecimal
hexadecimal-long bytes long = grind (arith, nat_tests)

-- all digits were read
whole : (radix : ℕ) (bytes : List ℕ) (i value : ℕ) → length bytes ≤ i → AllDigits radix (take i bytes) × (value ≡ digits_value radix (take i bytes)) → AllDigits radix bytes × (value ≡ digits_value radix bytes)
whole radix bytes i value end read = rw (take_all i bytes end) at read

pub hexadecimal-some : (bytes : List ℕ) (i value : ℕ) → false ≡ (length bytes == 0) → length bytes ≤ 16 → length bytes ≤ i → AllDigits 16 (take i bytes) × (value ≡ digits_value 16 (take i bytes)) → Some value ≡ hexadecimal bytes
unfolding hexadecimal
hexadecimal-some bytes i value some short end so_far =
    let read = whole 16 bytes i value end so_far in
    let numeral = numeral-digits 16 bytes some read.0 in let is = read.1 in grind (arith, nat_tests)

pub decimal-none : (bytes : List ℕ) → is_numeral 10 bytes ≡ false → None ≡ decimal_number bytes
unfolding decimal_number
decimal-none bytes none = rw none refl

-- a number does not fall as digits follow
after-le : (n : ℕ) (bytes : List ℕ) → n ≤ digits_value_after 10 n bytes
after-le n [] = omega arith
after-le n (b ∷ bytes) = omega (arith, after-le (n * 10 + digit_value b) bytes)

after-take : (n : ℕ) (bytes : List ℕ) (i : ℕ) → digits_value_after 10 n (take i bytes) ≤ digits_value_after 10 n bytes
after-take n bytes zero = after-le n bytes
after-take n [] (suc i) = omega arith
after-take n (b ∷ bytes) (suc i) = after-take (n * 10 + digit_value b) bytes i

pub decimal-large : (bytes : List ℕ) (i value : ℕ) → 2 ^ 32 ≤ value → AllDigits 10 (take i bytes) × (value ≡ digits_value 10 (take i bytes)) → None ≡ decimal_number bytes
unfolding decimal_number
decimal-large bytes i value large so_far = let is = so_far.1 in let more = after-take 0 bytes i in grind (arith, nat_tests)

pub decimal-some : (bytes : List ℕ) (i value : ℕ) → false ≡ (length bytes == 0) → value < 2 ^ 32 → length bytes ≤ i → AllDigits 10 (take i bytes) × (value ≡ digits_value 10 (take i bytes)) → Some value ≡ decimal_number bytes
unfolding decimal_number
decimal-some bytes i value some small end so_far =
    let read = whole 10 bytes i value end so_far in
    let numeral = numeral-digits 10 bytes some read.0 in let is = read.1 in grind (arith, nat_tests)

-- one digit more
pub next_digit : (radix : ℕ) (bytes : List ℕ) (i value added digit : ℕ) → i < length bytes → added ≡ digit → (digit ≡ digit_value (get_or bytes i 0)) × (digit < radix) → AllDigits radix (take i bytes) × (value ≡ digits_value radix (take i bytes))
    → AllDigits radix (take (i + 1) bytes) × (value * radix + added ≡ digits_value radix (take (i + 1) bytes))
next_digit radix bytes i value added digit inside same is so_far =
    let below : digit_value (get_or bytes i 0) < radix = omega arith in
    (digits_more radix bytes i inside so_far.0 below, rw (digits_value_more radix bytes i inside, so_far.1, same, is.0) refl)

-- up to 15 digits leave room for one more
pub room : (bytes : List ℕ) (i value : ℕ) → i < length bytes → length bytes ≤ 16 → AllDigits 16 (take i bytes) × (value ≡ digits_value 16 (take i bytes)) → value < 16 ^ 15
room bytes i value inside short so_far =
    let len : length (take i bytes) ≡ i = length-take-le i bytes (omega arith) in
    let below = rw len at (digits_value-lt 16 (take i bytes) so_far.0) in
    let power : 16 ^ i ≤ 16 ^ 15 = pow-le-pow_right {n = 16} (lit< tt) {i = i} {j = 15} (omega arith) in
    let is = so_far.1 in
    omega arith

-- the table of digits
is_right : ℕ → Bool
is_right b = (get_or DIGITS b 0 == digit_value b) || (nat_le 16 (get_or DIGITS b 0) && nat_le 16 (digit_value b))

all_right : (b : ℕ) → b < 256 → is_right b ≡ true
unfolding is_right
all_right b below = agree_below_at is_right (λ _. true) 256 b refl below

digit_cases : (d value : ℕ) → ((d == value) || (nat_le 16 d && nat_le 16 value)) ≡ true → (d < 16 → d ≡ value) × (16 ≤ d → 16 ≤ value)
digit_cases d value right = (λ low. grind (arith, nat_tests), λ high. grind (arith, nat_tests))

pub table_digit : (b : ℕ) → b < 256 → (get_or DIGITS b 0 < 16 → get_or DIGITS b 0 ≡ digit_value b) × (16 ≤ get_or DIGITS b 0 → 16 ≤ digit_value b)
unfolding is_right
table_digit b below = digit_cases (get_or DIGITS b 0) (digit_value b) (all_right b below)

pub hexadecimal-numeral : (bytes : List ℕ) (n : ℕ) → Some n ≡ hexadecimal bytes → is_numeral 16 bytes ≡ true
unfolding hexadecimal
hexadecimal-numeral bytes n is = grind (arith, nat_tests)
