-- Integers: the sign, the digits and what they write.
use Rattle.std.proofs.Common.{◌≡◌, ◌≢◌, ℕ, ◌<◌, ◌+◌, Bor, true, false, List, [], ◌∷◌, length, drop, eqb, refl, ap, sym, ◌∙◌, ◌^◌, arith, rules, lit<}
use Rattle.std.proofs.lemmas.Bool.Decides.{nat_tests}
use Rattle.std.proofs.lemmas.Str.Parse.{IsDigitsTest, IsNumeralModel, numerals_by_value, parse_digits}
use Rattle.std.proofs.lemmas.Str.Pattern.{strip_prefix_char}
use Rattle.std.specs.Char.{is_ascii_digit}
use Rattle.std.specs.List.{list_all}
use Rattle.std.specs.Option.{SomeIff}
use Rattle.std.specs.Result.{OkIff, result_ok}
use Rattle.std.specs.Str.Parse.{digits_value, ParsesUnsigned}
use Rattle.std.specs.Prelude.{Option, None, Some, MatchOption, Result, Ok, Err, unwrap_or}
use Rattle.std.specs.Str.Pattern.{FindsCharPrefix}
use Rattle.soc_cfi.specs.Operands.{digits_of}

no_minus : (token : List ℕ) → ((rest : List ℕ) → token ≢ 45 ∷ rest) → token ≡ digits_of token
no_minus [] other = refl
no_minus (byte ∷ bytes) other =
    let differs : byte ≢ 45 = λ e. other bytes (ap (λ b. b ∷ bytes) e) in
    let test : eqb byte 45 ≡ false = grind (arith, nat_tests) in
    rw test refl

digits_cases : (token : List ℕ) (stripped : Option (Bor (List ℕ))) (whole : Bor (List ℕ)) → whole.now ≡ token → MatchOption stripped ((rest : List ℕ) → token ≢ 45 ∷ rest) (λ x. token ≡ 45 ∷ x.now) → (unwrap_or stripped whole).now ≡ digits_of token
digits_cases token None whole same other = same ∙ no_minus token other
digits_cases token (Some x) whole same split = sym (ap digits_of split)

-- what stands behind the minus
pub digits_given : (token : List ℕ) (stripped : Option (Bor (List ℕ))) (whole : Bor (List ℕ)) → whole.now ≡ token → MatchOption stripped (FindsCharPrefix 45 token None) (λ x. (n : ℕ) × FindsCharPrefix 45 token (Some n) × (x.now ≡ drop n token) × (length x.now + n ≡ length token)) → (unwrap_or stripped whole).now ≡ digits_of token
digits_given token stripped whole same given = digits_cases token stripped whole same (strip_prefix_char 45 token stripped given (lit< tt))

-- digits alone are what `parse` reads
digits_test : IsDigitsTest (λ ds. list_all is_ascii_digit ds ≡ true)
digits_test = search rules

own_digits : IsNumeralModel (λ ds. list_all is_ascii_digit ds ≡ true) (digits_value 10)
own_digits = numerals_by_value (λ ds. list_all is_ascii_digit ds ≡ true) digits_test

number_cases : {E : Type 0} (digits : List ℕ) (parsed : Result ℕ E) → 0 < length digits → OkIff parsed ((0 < length digits) × (digits_value 10 digits < 2 ^ 64)) (digits_value 10 digits) → SomeIff (result_ok parsed) (digits_value 10 digits < 2 ^ 64) (digits_value 10 digits)
number_cases digits (Ok number) some read = (read.0.1, read.1)
number_cases digits (Err error) some unread = λ fits. unread (some, fits)

-- the number that digits write, as `parse` reads it
pub number_given : {E : Type 0} (digits : List ℕ) (parsed : Result ℕ E) → 0 < length digits → list_all is_ascii_digit digits ≡ true → ParsesUnsigned 64 10 digits parsed → SomeIff (result_ok parsed) (digits_value 10 digits < 2 ^ 64) (digits_value 10 digits)
number_given digits parsed some all given = number_cases digits parsed some (parse_digits own_digits 64 digits parsed given all)
