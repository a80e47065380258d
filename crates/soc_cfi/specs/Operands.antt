-- The tokens that push a value: the frame address, integers and registers, in this project's profile of Breakpad's
-- `STACK CFI` records.
use Rattle.std.specs.Prelude.{ℕ, ◌%◌, ◌^◌, Bool, ◌&&◌, nat_lt, nat_le, if◌then◌else◌, List, length, drop, Option, None, Some, codes}
use Rattle.std.specs.Char.{is_ascii_digit}
use Rattle.std.specs.List.{list_all}
use Rattle.std.specs.Str.{bytes_eq}
use Rattle.std.specs.Str.Parse.{digits_value, starts_with_minus}
use Rattle.soc_cfi.specs.Operators.{values_of, less}

-- what stands behind the minus of a token, or all of it where it has none
abbrev pub digits_of : List ℕ → List ℕ
digits_of token = if starts_with_minus token then drop 1 token else token

-- one decimal digit or more, with a minus before them or without
abbrev pub is_integer : List ℕ → Bool
is_integer token = nat_lt 0 (length (digits_of token)) && list_all is_ascii_digit (digits_of token)

-- an integer as a word; none where its digits write 2 ^ 64 or more
abbrev pub integer_of : ℕ → List ℕ → Option ℕ
integer_of width token =
    let number = digits_value 10 (digits_of token) in
    if nat_le (2 ^ 64) number then None
    else if starts_with_minus token then Some (less width 0 number)
    else Some (number % values_of width)

-- the value that a token pushes; none where it isn't known
abbrev pub operand_of : ℕ → (List ℕ → Option ℕ) → Option ℕ → List ℕ → Option ℕ
operand_of width register cfa token =
    if bytes_eq token (codes ".cfa") then cfa
    else if is_integer token then integer_of width token
    else register token
