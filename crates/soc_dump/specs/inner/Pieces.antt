-- Pieces of intervals, and how two lists of them become one.
use Rattle.std.specs.Prelude.{◌≡◌, ℕ, ◌+◌, ◌≤◌, ◌^◌, nat_lt, nat_le, Bool, true, if◌then◌else◌, List, [], ◌∷◌, length, Option, None, Some, ⊤}
use Rattle.std.specs.Option.{option_or}
use Rattle.soc_dump.specs.declared.covering.Interval.{Interval}
use Rattle.soc_dump.specs.declared.pieces.Piece.{Piece}
use Rattle.soc_dump.specs.declared.pieces.Layers.{Layers}
use Rattle.soc_dump.specs.Covering.{owner_from}

-- each piece begins no earlier than the one before it, and the first no earlier than a number
abbrev pub IsRising : ℕ → List Piece → Type 0
IsRising least [] = ⊤
IsRising least (piece ∷ pieces) = (least ≤ piece.from) × IsRising piece.from pieces

-- the pieces of one interval
abbrev pub piece_list : Interval → ℕ → List Piece
piece_list interval index =
    if nat_lt interval.last interval.first then [] else
    (record { from = interval.first; owner = Some index }
    ∷ (if nat_lt (interval.last + 1) (2 ^ 64) then record { from = interval.last + 1; owner = None } ∷ [] else []))

-- the pieces have the upper pieces' owner, or the lower's where the upper have none
pub record IsOverlay (above : Option ℕ) (upper : List Piece) (below : Option ℕ) (lower pieces : List Piece) : Type 0 where
  pub owners : (x : ℕ) → owner_from (option_or above below) pieces x ≡ option_or (owner_from above upper x) (owner_from below lower x)
  pub rising : (least : ℕ) → IsRising least upper → IsRising least lower → IsRising least pieces

abbrev pub IsOverlayOf : Layers → List Piece → Type 0
IsOverlayOf layers pieces = IsOverlay layers.above layers.upper.now layers.below layers.lower.now pieces

-- a piece, and behind it an overlay of what is left, is an overlay of all
abbrev pub LeadsTo : Layers → Piece → Layers → Type 0
LeadsTo layers piece rest = (pieces : List Piece) → IsOverlayOf rest pieces → IsOverlayOf layers (piece ∷ pieces)

abbrev pub layers_left : Layers → ℕ
layers_left layers = length layers.upper.now + length layers.lower.now

-- a piece begins no later than the first of others
abbrev pub leads : Piece → List Piece → Bool
leads piece [] = true
leads piece (other ∷ others) = nat_le piece.from other.from
