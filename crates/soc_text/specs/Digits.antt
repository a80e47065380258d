-- Decimal and lower-case hexadecimal digits, in ASCII.
use Rattle.std.specs.Prelude.{ℕ, ◌+◌, ◌-◌, ◌*◌, ◌/◌, ◌%◌, ◌≤◌, Bool, ◌||◌, List, [], ◌∷◌, length}
use Rattle.std.specs.Int.{is_in_range}
use Rattle.std.specs.Str.Parse.{IsNumeral}

abbrev pub zero : ℕ
zero = 48

abbrev pub nine : ℕ
nine = 57

abbrev pub lower_a : ℕ
lower_a = 97

abbrev pub lower_f : ℕ
lower_f = 102

-- `0` to `9` or `a` to `f`
abbrev pub is_lower_hex : ℕ → Bool
is_lower_hex byte = is_in_range zero nine byte || is_in_range lower_a lower_f byte

-- the digits of a number below 100
abbrev pub two_digits : ℕ → List ℕ
two_digits n = (zero + n / 10) ∷ (zero + n % 10) ∷ []

-- the number that two digits write
abbrev pub two_digits_value : ℕ → ℕ → ℕ
two_digits_value tens ones = (tens - zero) * 10 + (ones - zero)

-- 1 to `most` digits and nothing else
abbrev pub IsNumber : ℕ → List ℕ → Type 0
IsNumber most digits = (length digits ≤ most) × IsNumeral 10 digits
