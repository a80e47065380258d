-- The order of ids.
use Rattle.std.specs.Prelude.{ℕ, List}
use Rattle.std.specs.Ordering.{nat_cmp}
use Rattle.std.specs.Cmp.Lexicographic.{slice_cmp}
use Rattle.soc_schema.specs.Orders.{in_order}

-- ids in rising byte order
abbrev pub in_id_order : List (List ℕ) → List (List ℕ)
in_id_order ids = in_order (slice_cmp nat_cmp) ids
