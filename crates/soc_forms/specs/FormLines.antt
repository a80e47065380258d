-- The lines of a message that say how its body is written: `Content-Encoding` and `Content-Type`
-- (RFC 9110, sections 8.3 and 8.4), in this project's profile.
use Rattle.std.specs.Prelude.{◌≡◌, ◌≢◌, ℕ, ◌==◌, Bool, true, List, [], ◌∷◌, length, take, drop, codes, Option, Some, MatchOption, ⊤}
use Rattle.std.specs.List.{position_or_len}
use Rattle.soc_forms.specs.declared.reasons.Reason.{Reason}
use Rattle.soc_forms.specs.declared.reasons.Reason.TheVariants.{ContentEncoding, NoContentType, WrongContentType, NoBoundary}
use Rattle.soc_multipart.specs.Delimiters.{IsBoundary}
use Rattle.soc_text.specs.Blanks.{trimmed}
use Rattle.soc_multipart.specs.Params.{ParamText, AreParams, lower, semicolon, value_of}

abbrev pub is_semicolon : ℕ → Bool
is_semicolon byte = byte == semicolon

-- what stands before the first semicolon, without the blanks around it
abbrev pub media_of : List ℕ → List ℕ
media_of value = trimmed (take (position_or_len is_semicolon value) value)

-- what stands from the first semicolon on
abbrev pub params_of : List ℕ → List ℕ
params_of value = drop (position_or_len is_semicolon value) value

-- the body is not encoded
abbrev pub IsPlain : Option (List ℕ) → Type 0
IsPlain encoding = MatchOption encoding ⊤ (λ value. lower value ≡ codes "identity")

-- the value names the boundary among its parameters
pub record HasBoundary (value boundary : List ℕ) : Type 0 where
  pub params : List ParamText
  pub in_order : AreParams true (params_of value) params
  pub named : value_of (codes "boundary") params ≡ Some boundary
  pub good : IsBoundary boundary

-- the body is not encoded, and there is one `Content-Type`, of this value
pub record HasOneType (encoding : Option (List ℕ)) (kinds : List (List ℕ × List ℕ)) (value : List ℕ) : Type 0 where
  pub name : List ℕ
  pub plain : IsPlain encoding
  pub one : kinds ≡ (name, value) ∷ []

-- the lines are those of a form with this boundary
pub record AreFormLines (encoding : Option (List ℕ)) (kinds : List (List ℕ × List ℕ)) (boundary : List ℕ) : Type 0 where
  pub value : List ℕ
  pub lines : HasOneType encoding kinds value
  pub media : lower (media_of value) ≡ codes "multipart/form-data"
  pub has : HasBoundary value boundary

-- the first reason why the lines are none of a form
abbrev pub LinesFault : Option (List ℕ) → List (List ℕ × List ℕ) → Reason → Type 0
LinesFault encoding kinds ContentEncoding = ¬ (IsPlain encoding)
LinesFault encoding kinds NoContentType = IsPlain encoding × (length kinds ≢ 1)
LinesFault encoding kinds WrongContentType =
    (value : List ℕ) × HasOneType encoding kinds value × (lower (media_of value) ≢ codes "multipart/form-data")
LinesFault encoding kinds NoBoundary =
    (value : List ℕ) × HasOneType encoding kinds value × (lower (media_of value) ≡ codes "multipart/form-data")
    × ((boundary : List ℕ) → ¬ (HasBoundary value boundary))
LinesFault encoding kinds _ = ⊥
