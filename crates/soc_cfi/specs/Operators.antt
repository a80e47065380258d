-- The operators of postfix expressions, on words that wrap, in this project's profile of Breakpad's `STACK CFI` records.
use Rattle.std.specs.Prelude.{ℕ, ◌+◌, ◌-◌, ◌*◌, ◌/◌, ◌%◌, ◌^◌, ◌==◌, if◌then◌else◌, List, Option, None, Some, codes}
use Rattle.std.specs.Int.{is_power_of_two}
use Rattle.std.specs.Str.{bytes_eq}
use Rattle.soc_cfi.specs.declared.operator.Operator.{Operator}
use Rattle.soc_cfi.specs.declared.operator.Operator.TheVariants.{Add, Subtract, Multiply, Divide, Remainder, RoundDown}

-- the operator that a token is
abbrev pub operator_of : List ℕ → Option Operator
operator_of token =
    if bytes_eq token (codes "+") then Some Add
    else if bytes_eq token (codes "-") then Some Subtract
    else if bytes_eq token (codes "*") then Some Multiply
    else if bytes_eq token (codes "/") then Some Divide
    else if bytes_eq token (codes "%") then Some Remainder
    else if bytes_eq token (codes "@") then Some RoundDown
    else None

-- how many values a word of so many bytes has: words wrap at this number
abbrev pub values_of : ℕ → ℕ
values_of width = 256 ^ width

-- a less b, as words
abbrev pub less : ℕ → ℕ → ℕ → ℕ
less width a b = (a + (values_of width - b % values_of width)) % values_of width

-- what an operator gives of the lower and the upper operand; none where it fails
abbrev pub applied : ℕ → Operator → ℕ → ℕ → Option ℕ
applied width Add lower upper = Some ((lower + upper) % values_of width)
applied width Subtract lower upper = Some (less width lower upper)
applied width Multiply lower upper = Some ((lower * upper) % values_of width)
applied width Divide lower upper = if upper == 0 then None else Some (lower / upper)
applied width Remainder lower upper = if upper == 0 then None else Some (lower % upper)
applied width RoundDown lower upper = if is_power_of_two upper then Some (lower - lower % upper) else None
