-- How many brackets stand open, which is all that a name's outer places need of them.
use Rattle.std.specs.Prelude.{ℕ, ◌+◌, ◌-◌, ◌==◌, ◌&&◌, nat_lt, Bool, if◌then◌else◌, List, [], ◌∷◌}
use Rattle.soc_frames.specs.declared.depth.Depth.{Depth}
use Rattle.soc_frames.specs.declared.walk.Place.{Place}
use Rattle.soc_frames.specs.Depth.{Bracket, angle, round, open_angle, close_angle, open_round, close_round}

abbrev pub rounds_in : List Bracket → ℕ
rounds_in [] = 0
rounds_in (angle ∷ brackets) = rounds_in brackets
rounds_in (round ∷ brackets) = rounds_in brackets + 1

-- the `<` outside of parentheses
abbrev pub angles_in : List Bracket → ℕ
angles_in [] = 0
angles_in (angle ∷ brackets) = if nat_lt 0 (rounds_in brackets) then angles_in brackets else angles_in brackets + 1
angles_in (round ∷ brackets) = angles_in brackets

abbrev pub depth_of : List Bracket → Depth
depth_of brackets = record { angles = angles_in brackets; rounds = rounds_in brackets }

abbrev pub is_none : Depth → Bool
is_none depth = depth.angles == 0 && depth.rounds == 0

-- `<` and `>` count outside of parentheses alone
abbrev pub after_place : Depth → Place → Depth
after_place depth place =
    if place.is_plain then depth
    else if place.byte == open_angle then (if nat_lt 0 depth.rounds then depth else record { angles = depth.angles + 1; rounds = depth.rounds })
    else if place.byte == open_round then record { angles = depth.angles; rounds = depth.rounds + 1 }
    else if place.byte == close_angle then (if nat_lt 0 depth.rounds then depth else record { angles = depth.angles - 1; rounds = depth.rounds })
    else if place.byte == close_round then record { angles = depth.angles; rounds = depth.rounds - 1 }
    else depth
