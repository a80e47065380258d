-- The pairs of a query or of a form's body (URL Standard, section 5.1, as `form_urlencoded` reads it).
use Rattle.std.specs.Prelude.{ℕ, List, map, find, Option, option_map, bytes_eq}
use Rattle.std.specs.Str.Lossy.{utf8_lossy}
use Rattle.form_urlencoded.specs.Form.{raw_pairs, decode}

-- a name or a value: `+` is a space, escapes are decoded, and bytes that then aren't UTF-8 become U+FFFD
abbrev pub decoded_text : List ℕ → List ℕ
decoded_text bytes = utf8_lossy (decode bytes)

-- a name and a value
abbrev pub decoded_pair : List ℕ × List ℕ → List ℕ × List ℕ
decoded_pair pair = (decoded_text pair.0, decoded_text pair.1)

-- all names and values in order
abbrev pub query_pairs : List ℕ → List (List ℕ × List ℕ)
query_pairs query = map decoded_pair (raw_pairs query)

-- the value of the first pair of this name
abbrev pub first_value : List ℕ → List (List ℕ × List ℕ) → Option (List ℕ)
first_value name pairs = option_map (λ pair. pair.1) (find (λ pair. bytes_eq pair.0 name) pairs)
