-- Faults of what lies outside: each object counts its own, and a fault is answered only where that count rose.
use Rattle.std.specs.Prelude.{ℕ, ◌<◌, ◌≤◌, ◌^◌, ◌-◌, ◌⊎◌}

-- the last value of a count, at which it stands still
abbrev pub last_count : ℕ
last_count = 2 ^ 64 - 1

-- the count rose in a call; one that stands at its last value after the call is said to have risen too
abbrev pub Rose : ℕ → ℕ → Type 0
Rose before after = (before < after) ⊎ (last_count ≤ after)
