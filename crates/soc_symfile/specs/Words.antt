-- The words and numbers of a line of a symbol file (Breakpad's symbol files), and its texts, which are UTF-8.
use Rattle.std.specs.Prelude.{ℕ, ◌^◌, ◌==◌, ◌&&◌, nat_lt, nat_le, Bool, if◌then◌else◌, List, length, codes, Option, None, Some}
use Rattle.std.specs.List.{list_all, before_first, after_first}
use Rattle.std.specs.Char.{digit_value}
use Rattle.std.specs.Str.{byte, bytes_eq, is_utf8}
use Rattle.std.specs.Str.Parse.{digits_value}

abbrev pub is_space : ℕ → Bool
is_space b = b == byte " "

-- what stands before the first space, and what behind it; all and nothing where there is none
abbrev pub word : List ℕ → List ℕ
word bytes = before_first is_space bytes

abbrev pub rest : List ℕ → List ℕ
rest bytes = after_first is_space bytes

-- one digit or more, and nothing else
abbrev pub is_numeral : ℕ → List ℕ → Bool
is_numeral radix bytes = nat_lt 0 (length bytes) && list_all (λ b. nat_lt (digit_value b) radix) bytes

-- the number that 1 to 16 hexadecimal digits write, in either case
unfoldable pub hexadecimal : List ℕ → Option ℕ
hexadecimal bytes = if is_numeral 16 bytes && nat_le (length bytes) 16 then Some (digits_value 16 bytes) else None

-- the number below 2^32 that decimal digits write, with any number of leading zeros
unfoldable pub decimal_number : List ℕ → Option ℕ
decimal_number bytes = if is_numeral 10 bytes && nat_lt (digits_value 10 bytes) (2 ^ 32) then Some (digits_value 10 bytes) else None

-- a name or rules: at least one byte, and UTF-8
unfoldable pub text_of : List ℕ → Option (List ℕ)
text_of bytes = if nat_lt 0 (length bytes) && is_utf8 bytes then Some bytes else None

-- the items behind the word `m`, which may stand before them
abbrev pub unmarked : List ℕ → List ℕ
unmarked items = if bytes_eq (word items) (codes "m") then rest items else items
