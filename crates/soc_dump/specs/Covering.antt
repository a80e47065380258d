-- The first interval of a list that covers a number.
use Rattle.std.specs.Prelude.{ℕ, ◌+◌, ◌-◌, ◌^◌, ◌==◌, ◌&&◌, nat_lt, nat_le, min, Bool, if◌then◌else◌, List, [], ◌∷◌, Option, None, option_map, position}
use Rattle.std.specs.Option.{option_or}
use Rattle.soc_dump.specs.declared.covering.Interval.{Interval}
use Rattle.soc_dump.specs.declared.pieces.Piece.{Piece}

-- both ends are covered; where the last is below the first, nothing is
abbrev pub covers : ℕ → Interval → Bool
covers x interval = nat_le interval.first x && nat_le x interval.last

-- which interval of the list is the first that covers a number
abbrev pub first_covering : List Interval → ℕ → Option ℕ
first_covering intervals x = position (covers x) intervals

-- so many numbers, or as many of them as are below 2 ^ 64
abbrev pub interval_from : ℕ → ℕ → Interval
interval_from first count =
    if count == 0 then record { first = 1; last = 0 }
    else record { first = first; last = min (first + (count - 1)) (2 ^ 64 - 1) }

-- the owner of the last piece that begins at a number or before it; the owner before all pieces where there is none
abbrev pub owner_from : Option ℕ → List Piece → ℕ → Option ℕ
owner_from owner [] x = owner
owner_from owner (piece ∷ pieces) x = if nat_lt x piece.from then owner else owner_from piece.owner pieces x

-- the pieces of a slice of a list, whose owners are counted from the slice's first
pub record LayerEntry : Type 0 where
  pub first : ℕ
  pub pieces : List Piece

-- the owner in a slice, counted from the list's first
abbrev pub layer_owner : LayerEntry → ℕ → Option ℕ
layer_owner layer x = option_map (λ owner. layer.first + owner) (owner_from None layer.pieces x)

-- the owner in the first slice that has one
abbrev pub owner_in : List LayerEntry → ℕ → Option ℕ
owner_in [] x = None
owner_in (layer ∷ layers) x = option_or (layer_owner layer x) (owner_in layers x)
