-- Parameters of a header's value: a semicolon, a name, an equals sign and a value, which is a token or a
-- quoted text (RFC 9110, sections 5.6.2, 5.6.4 and 5.6.6).
use Rattle.std.specs.Prelude.{◌≡◌, ◌≢◌, ℕ, ◌<◌, ◌⊎◌, Bool, false, ◌||◌, ◌==◌, List, [], ◌∷◌, ◌++◌, length, map, codes, Option, Some, None, if◌then◌else◌, AllPairs}
use Rattle.std.specs.List.{AllPass, list_any}
use Rattle.std.specs.Char.{is_ascii_alphanumeric, to_ascii_lowercase}
use Rattle.std.specs.Str.{bytes_eq}
use Rattle.soc_text.specs.Blanks.{is_blank}
use Rattle.soc_text.specs.Tokens.{IsToken, is_token_byte}
use Rattle.soc_multipart.specs.Chains.{Chain}

abbrev pub semicolon : ℕ
semicolon = 59

abbrev pub equals_sign : ℕ
equals_sign = 61

abbrev pub quote : ℕ
quote = 34

abbrev pub backslash : ℕ
backslash = 92

-- the text begins with the byte as a quoted text spells it, and then rest: a backslash keeps the byte
-- behind it, whichever it is
abbrev pub SpellsByte : List ℕ → ℕ → List ℕ → Type 0
SpellsByte text byte rest =
    ((text ≡ byte ∷ rest) × (byte ≢ quote) × (byte ≢ backslash)) ⊎ (text ≡ backslash ∷ byte ∷ rest)

-- the text holds the bytes as a quoted text spells them, a quote, and then rest
abbrev pub EndsQuoted : List ℕ → List ℕ → List ℕ → Type 0
EndsQuoted text bytes rest = Chain SpellsByte text bytes (quote ∷ rest)

-- the text begins with a token that is the value, or with a quoted text that stands for it
abbrev pub BeginsWithValue : List ℕ → List ℕ → List ℕ → Type 0
BeginsWithValue text value rest =
    (IsToken value × (text ≡ value ++ rest)) ⊎ ((behind : List ℕ) × (text ≡ quote ∷ behind) × EndsQuoted behind value rest)

-- the text does not begin with a byte of a token
abbrev pub EndsToken : List ℕ → Type 0
EndsToken text = (b : ℕ) (more : List ℕ) → text ≡ b ∷ more → is_token_byte b ≡ false

-- a value, and then rest, which does not go on with a byte of a token
pub record ReadsValue (text value rest : List ℕ) : Type 0 where
  pub begins : BeginsWithValue text value rest
  pub ends : EndsToken rest

-- rest stands behind blanks that may stand before a semicolon where the form is spaced, and else may not
pub record SkipsGap (spaced : Bool) (text rest : List ℕ) : Type 0 where
  pub gap : List ℕ
  pub blanks : AllPass is_blank gap
  pub free : spaced ≡ false → gap ≡ []
  pub whole : text ≡ gap ++ rest

-- a semicolon, blanks, a name and an equals sign, and then rest
pub record ReadsName (spaced : Bool) (text name rest : List ℕ) : Type 0 where
  pub pad : List ℕ
  pub blanks : AllPass is_blank pad
  pub token : IsToken name
  pub skips : SkipsGap spaced text (semicolon ∷ (pad ++ (name ++ (equals_sign ∷ rest))))

-- a name and what its value stands for
pub record ParamText : Type 0 where
  pub name : List ℕ
  pub value : List ℕ

-- a parameter, and then rest
pub record ReadsParam (spaced : Bool) (text : List ℕ) (param : ParamText) (rest : List ℕ) : Type 0 where
  pub later : List ℕ
  pub named : ReadsName spaced text param.name later
  pub valued : ReadsValue later param.value rest

-- a text without regard to ASCII case
abbrev pub lower : List ℕ → List ℕ
lower text = map to_ascii_lowercase text

-- no two parameters have one name
abbrev pub AreDistinct : List ParamText → Type 0
AreDistinct params = AllPairs (λ p q. lower p.name ≢ lower q.name) params

-- the text is these parameters, no two of one name
pub record AreParams (spaced : Bool) (text : List ℕ) (params : List ParamText) : Type 0 where
  pub in_order : Chain (ReadsParam spaced) text params []
  pub distinct : AreDistinct params

-- the value of the first parameter of this name
abbrev pub value_of : List ℕ → List ParamText → Option (List ℕ)
value_of name [] = None
value_of name (p ∷ params) = if bytes_eq (lower p.name) (lower name) then Some p.value else value_of name params
