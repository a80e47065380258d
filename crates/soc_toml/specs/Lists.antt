-- Arrays in a TOML document (TOML 1.1, section "Array"): of texts, and of tables.
use Rattle.std.specs.Prelude.{ℕ, Bool, true, false, ◌&&◌, if◌then◌else◌, nat_le, List, [], ◌∷◌, length, Option, Some, None, option_map, option_and_then, is_some}
use Rattle.std.specs.Str.{bytes_eq}
use Rattle.toml.specs.Data.{Data, string, as_str, as_table, as_array, Items, no_items, item}

-- the values of an array, as a list
abbrev pub list_of : Items → List Data
list_of no_items = []
list_of (item value rest) = value ∷ list_of rest

-- the texts of the values, where each of them is one
abbrev pub texts_among : Items → Option (List (List ℕ))
texts_among no_items = Some []
texts_among (item value rest) = option_and_then (λ text. option_map (λ texts. text ∷ texts) (texts_among rest)) (as_str value)

-- the texts of an array of texts
abbrev pub texts_of : Data → Option (List (List ℕ))
texts_of value = option_and_then texts_among (as_array value)

-- the values of an array, where they are at most so many
abbrev pub within : ℕ → Items → Option Items
within most items = if nat_le (length (list_of items)) most then Some items else None

-- the texts of an array of at most so many texts
abbrev pub texts_within : ℕ → Data → Option (List (List ℕ))
texts_within most value = option_and_then texts_among (option_and_then (within most) (as_array value))

-- each value is a table
abbrev pub all_tables : Items → Bool
all_tables no_items = true
all_tables (item value rest) = is_some (as_table value) && all_tables rest

-- there are values, and each is a table
abbrev pub holds_all_tables : Option Items → Bool
holds_all_tables None = false
holds_all_tables (Some items) = all_tables items

-- an array of at most so many tables
abbrev pub is_table_array : ℕ → Data → Bool
is_table_array most value = holds_all_tables (option_and_then (within most) (as_array value))

-- this text
abbrev pub is_text : List ℕ → Data → Bool
is_text text (string other) = bytes_eq other text
is_text text _ = false
