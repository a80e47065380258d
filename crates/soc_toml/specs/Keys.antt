-- What a key of a TOML table holds (TOML 1.1, section "Table"), by kind and form. A table is the list of its members, in byte order of keys.
use Rattle.std.specs.Prelude.{ℕ, pos, negsuc, ℤ, Bool, true, ◌&&◌, ◌||◌, ◌==◌, if◌then◌else◌, nat_le, List, length, Option, Some, None, option_and_then}
use Rattle.std.specs.List.{list_any, list_all}
use Rattle.std.specs.Char.{is_ascii_digit, is_ascii_lowercase, is_ascii_graphic}
use Rattle.std.specs.Str.{bytes_eq}
use Rattle.toml.specs.Data.{Data, as_str, as_integer, Members, no_members, member, get_member, is_before}

-- the text at a key
abbrev pub text_at : List ℕ → Members → Option (List ℕ)
text_at key table = option_and_then as_str (get_member key table)

-- 1 to `most` bytes, each of which passes the test
abbrev pub has_form : (ℕ → Bool) → ℕ → List ℕ → Bool
has_form passes most text = (nat_le 1 (length text) && nat_le (length text) most) && list_all passes text

-- the text where it has that form
abbrev pub of_form : (ℕ → Bool) → ℕ → List ℕ → Option (List ℕ)
of_form passes most text = if has_form passes most text then Some text else None

abbrev pub underscore : ℕ
underscore = 95

-- `a` to `z`, a digit or `_`
abbrev pub is_name_byte : ℕ → Bool
is_name_byte byte = (is_ascii_lowercase byte || is_ascii_digit byte) || byte == underscore

-- the name at a key: 1 to `most` of `a` to `z`, digits and `_`
abbrev pub name_at : List ℕ → ℕ → Members → Option (List ℕ)
name_at key most table = option_and_then (of_form is_name_byte most) (text_at key table)

-- the text at a key where it is 1 to `most` visible ASCII characters
abbrev pub visible_at : List ℕ → ℕ → Members → Option (List ℕ)
visible_at key most table = option_and_then (of_form is_ascii_graphic most) (text_at key table)

-- a number from `low` to `high`
abbrev pub number_within : ℕ → ℕ → ℤ → Option ℕ
number_within low high (pos n) = if nat_le low n && nat_le n high then Some n else None
number_within low high (negsuc n) = None

-- the integer of a value where it lies from `low` to `high`
abbrev pub number_of : ℕ → ℕ → Data → Option ℕ
number_of low high value = option_and_then (number_within low high) (as_integer value)

-- the same at a key, where a key that isn't there stands for `default`
abbrev pub number_or : ℕ → ℕ → ℕ → Option Data → Option ℕ
number_or default low high None = Some default
number_or default low high (Some value) = number_of low high value

-- the keys stand in rising byte order
abbrev pub keys_rise : Members → Bool
keys_rise no_members = true
keys_rise (member key value rest) = is_before key rest && keys_rise rest

-- the first key that is none of the names
abbrev pub first_other : List (List ℕ) → Members → Option (List ℕ)
first_other names no_members = None
first_other names (member key value rest) = if list_any (bytes_eq key) names then first_other names rest else Some key
