-- Texts within a page (HTML Living Standard, section 13.1.4): five characters stand as references, so that none of them opens
-- a tag, a reference or a quoted value.
use Rattle.std.specs.Prelude.{ℕ, ◌==◌, if◌then◌else◌, List, [], ◌∷◌, codes, decimal}
use Rattle.std.specs.List.{flat_map}
use Rattle.soc_schema.specs.declared.value.Value.{Value}
use Rattle.soc_schema.specs.declared.value.Value.TheVariants.{Text, Number, Flag}

abbrev pub ampersand : ℕ
ampersand = 38

abbrev pub less_than : ℕ
less_than = 60

abbrev pub greater_than : ℕ
greater_than = 62

abbrev pub quotation_mark : ℕ
quotation_mark = 34

abbrev pub apostrophe : ℕ
apostrophe = 39

-- what stands for a byte
abbrev pub escape : ℕ → List ℕ
escape byte =
    if byte == ampersand then codes "&amp;"
    else (if byte == less_than then codes "&lt;"
    else (if byte == greater_than then codes "&gt;"
    else (if byte == quotation_mark then codes "&quot;"
    else (if byte == apostrophe then codes "&#39;"
    else byte ∷ []))))

unfoldable pub escaped : List ℕ → List ℕ
escaped text = flat_map escape text

-- a value as a page shows it
abbrev pub shown : Value → List ℕ
shown (Text text) = escaped text
shown (Number n) = decimal n
shown (Flag b) = if b then codes "true" else codes "false"
