-- The head of a part (RFC 2046, section 5.1; RFC 7578, section 4), in this project's profile: lines of
-- a token, a colon and a value, of which one is `Content-Disposition` and at most one `Content-Type`.
use Rattle.std.specs.Prelude.{◌≡◌, ℕ, ◌+◌, ◌-◌, ◌≤◌, Bool, false, ◌||◌, ◌==◌, not, List, [], ◌∷◌, ◌++◌, length, take, drop, codes, Option, Some, if◌then◌else◌, ⊤}
use Rattle.std.specs.List.{AllPass, prefix_len, suffix_len}
use Rattle.std.specs.Option.{option_map}
use Rattle.std.specs.Str.{bytes_eq}
use Rattle.std.specs.Str.Lossy.{utf8_lossy}
use Rattle.soc_multipart.specs.declared.heads.HeadEnd.{HeadEnd}
use Rattle.soc_multipart.specs.declared.heads.HeadEnd.TheVariants.{Content, Open}
use Rattle.soc_multipart.specs.Chains.{Chain, HasNoStep}
use Rattle.soc_text.specs.Blanks.{trimmed}
use Rattle.soc_text.specs.Lines.{carriage_return, line_feed, crlf}
use Rattle.soc_multipart.specs.Params.{ParamText, AreParams, lower, value_of}
use Rattle.soc_text.specs.Tokens.{IsToken}

-- the most bytes that a head has
abbrev pub head_limit : ℕ
head_limit = 1024

abbrev pub colon : ℕ
colon = 58

-- a line: its name, and the value with the blanks around it
pub record LineText : Type 0 where
  pub name : List ℕ
  pub raw : List ℕ

-- a byte of a line's value: any but CR and LF
abbrev pub is_line_byte : ℕ → Bool
is_line_byte byte = not (byte == carriage_return || byte == line_feed)

-- a line with its line end, and then rest
pub record ReadsLine (text : List ℕ) (line : LineText) (rest : List ℕ) : Type 0 where
  pub token : IsToken line.name
  pub passes : AllPass is_line_byte line.raw
  pub whole : text ≡ line.name ++ (colon ∷ (line.raw ++ (crlf ++ rest)))

-- the values of the lines of this name, in order
abbrev pub values_of : List ℕ → List LineText → List (List ℕ)
values_of name [] = []
values_of name (line ∷ lines) =
    if bytes_eq (lower line.name) (lower name) then trimmed line.raw ∷ values_of name lines else values_of name lines

-- `form-data` and parameters, of which one is `name` and one may be `filename`
pub record IsDisposition (value name : List ℕ) (file : Option (List ℕ)) : Type 0 where
  pub text : List ℕ
  pub params : List ParamText
  pub raw_name : List ℕ
  pub whole : value ≡ codes "form-data" ++ text
  pub in_order : AreParams false text params
  pub named : value_of (codes "name") params ≡ Some raw_name
  pub name_is : name ≡ utf8_lossy raw_name
  pub file_is : file ≡ option_map utf8_lossy (value_of (codes "filename") params)

-- what the values of `Content-Type`, of which there is one at most, say of the kind
abbrev pub IsKind : List (List ℕ) → List ℕ → Type 0
IsKind [] kind = kind ≡ []
IsKind (value ∷ []) kind = kind ≡ utf8_lossy value
IsKind (value ∷ other ∷ values) kind = ⊥

-- the lines are a head that says this
pub record IsHead (lines : List LineText) (name : List ℕ) (file : Option (List ℕ)) (kind : List ℕ) : Type 0 where
  pub value : List ℕ
  pub once : values_of (codes "content-disposition") lines ≡ value ∷ []
  pub disposed : IsDisposition value name file
  pub kind_is : IsKind (values_of (codes "content-type") lines) kind

-- the values of `Content-Disposition` in a head that goes on: none yet, or a good one
abbrev pub MayDispose : List (List ℕ) → Type 0
MayDispose [] = ⊤
MayDispose (value ∷ []) = (name : List ℕ) × (file : Option (List ℕ)) × IsDisposition value name file
MayDispose (value ∷ other ∷ values) = ⊥

-- the lines of a head that goes on: none is doubled, and the disposition, if it came, is good
pub record MayBeHead (lines : List LineText) : Type 0 where
  pub may_dispose : MayDispose (values_of (codes "content-disposition") lines)
  pub may_kind : length (values_of (codes "content-type") lines) ≤ 1

-- head lines, an empty line that ends within the limit, and then the content
pub record EndsInContent (piece : List ℕ) (lines : List LineText) (content : List ℕ) : Type 0 where
  pub in_order : Chain ReadsLine piece lines (crlf ++ content)
  pub short : length piece ≤ head_limit + length content

-- the first bytes of the piece, up to the limit, hold no head lines and an empty line
abbrev pub HasNoContent : List ℕ → Type 0
HasNoContent piece = (lines : List LineText) (content : List ℕ) → ¬ (EndsInContent piece lines content)

-- how the head of a piece ends
abbrev pub IsHeadEnd : List ℕ → List LineText → HeadEnd → Type 0
IsHeadEnd piece lines (Content content) = EndsInContent piece lines content.now
IsHeadEnd piece lines (Open tail) =
    Chain ReadsLine piece lines tail.now × HasNoContent piece × (length piece ≤ head_limit → HasNoStep ReadsLine tail.now)
