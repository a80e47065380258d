-- What a case says at its keys.
use Rattle.std.specs.Prelude.{ℕ, Bool, false, ◌&&◌, ◌==◌, Option, Some, None, List, length, codes, option_map, unwrap_or}
use Rattle.std.specs.Str.{bytes_eq}
use Rattle.toml.specs.Data.{Data, Members, as_bool, get_member}
use Rattle.soc_toml.specs.Keys.{number_or, text_at}

-- the greatest number of 64 bits
abbrev pub most : ℕ
most = 18446744073709551615

-- the number at a key, or this one where the key isn't there
abbrev pub number_at : List ℕ → ℕ → Members → Option ℕ
number_at key default case = number_or default 0 most (get_member key case)

-- what a value says that may be missing, and then says false
abbrev pub flag_in : Option Data → Option Bool
flag_in None = Some false
flag_in (Some value) = as_bool value

-- the flag at a key
abbrev pub flag_at : List ℕ → Members → Option Bool
flag_at key case = flag_in (get_member key case)

-- whether these are the bytes that a case says the disk ends with, and as many as it says; what it doesn't say is so
abbrev pub is_journal : Members → List ℕ → Option Bool
is_journal case bytes =
    option_map (λ count. bytes_eq bytes (unwrap_or (text_at (codes "journal") case) bytes) && count == length bytes)
    (number_at (codes "length") (length bytes) case)
