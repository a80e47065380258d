-- A number for each value, so that of two values the lower one has no higher number.
use Rattle.std.specs.Prelude.{ℕ, zero, suc, ◌+◌, ◌-◌, ◌*◌, ◌^◌, nat_lt, min, List, [], ◌∷◌, if◌then◌else◌}
use Rattle.soc_schema.specs.declared.value.Value.{Value}
use Rattle.soc_schema.specs.declared.value.Value.TheVariants.{Text, Number, Flag}
use Rattle.soc_schema.specs.Orders.{flag_number}

-- the most that so many bytes can make of a number
abbrev pub filled_up : ℕ → ℕ → ℕ
filled_up k zero = k
filled_up k (suc n) = filled_up (k * 256 + 255) n

-- a number with so many bytes behind it, where missing ones are 0
abbrev pub packed : ℕ → ℕ → List ℕ → ℕ
packed k zero bytes = k
packed k (suc n) [] = packed (k * 256) n []
packed k (suc n) (b ∷ bytes) = if nat_lt b 256 then packed (k * 256 + b) n bytes else filled_up (k * 256 + 255) n

-- texts by their first seven bytes, then numbers, of which those from 2 ^ 56 - 1 on share a key, then flags
abbrev pub key_of : Value → ℕ
key_of (Text t) = packed 0 7 t
key_of (Number n) = 2 ^ 56 + min n (2 ^ 56 - 1)
key_of (Flag b) = 2 ^ 57 + flag_number b
