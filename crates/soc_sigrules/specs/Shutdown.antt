-- What a shutdown that hangs says of itself: a JSON text (RFC 8259) with the phase that waits, and what it waits for
-- (this project's profile, after Firefox's `AsyncShutdownTimeout`).
use Rattle.std.specs.Prelude.{ℕ, ◌==◌, if◌then◌else◌, List, [], ◌∷◌, ◌++◌, length, codes, nat_le, Option, None, Some, unwrap_or}
use Rattle.std.specs.Option.{option_or}
use Rattle.serde_json.specs.Data.{Data, Items, no_items, item}
use Rattle.serde_json.specs.Find.{get, as_str, as_array}
use Rattle.serde_json.specs.Read.{read}
use Rattle.soc_base.specs.Options.{◌>>=◌}
use Rattle.soc_sigrules.specs.Chars.{joined}

-- the most bytes of a text that is read; a longer one counts as no JSON
abbrev pub json_limit : ℕ
json_limit = 65_536

abbrev pub json_of : List ℕ → Option Data
json_of text = if nat_le (length text) json_limit then read text else None

-- the text of an object's member
abbrev pub text_at : List ℕ → Data → Option (List ℕ)
text_at key value = get key value >>= as_str

-- a condition is a text, or an object with a text `name`
abbrev pub name_of : Data → Option (List ℕ)
name_of condition = option_or (as_str condition) (text_at (codes "name") condition)

abbrev pub names_of : Items → Option (List (List ℕ))
names_of no_items = Some []
names_of (item condition more) = do
  name ← name_of condition
  names ← names_of more
  Some (name ∷ names)

abbrev pub names_text : List (List ℕ) → List ℕ
names_text names = if length names == 0 then codes "(none)" else joined (codes ", ") names

abbrev pub conditions_of : Data → Option Items
conditions_of value = get (codes "conditions") value >>= as_array

-- the text `phase` and the array `conditions` of an object
abbrev pub described : Data → Option (List ℕ)
described value = do
  phase ← text_at (codes "phase") value
  conditions ← conditions_of value
  names ← names_of conditions
  Some (phase ++ (codes " | " ++ names_text names))

abbrev pub shutdown_text : List ℕ → List ℕ
shutdown_text text = codes "AsyncShutdownTimeout | " ++ unwrap_or (json_of text >>= described) (codes "UNKNOWN")
