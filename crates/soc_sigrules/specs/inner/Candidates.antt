-- Marks from a place of a frame on.
use Rattle.std.specs.Prelude.{ℕ, ◌+◌, List, drop, Option, option_map}
use Rattle.soc_sigrules.specs.Modules.{mark_place}

-- where the first of them stands
abbrev pub mark_from : List ℕ → ℕ → Option ℕ
mark_from frame place = option_map (λ p. place + p) (mark_place (drop place frame))
