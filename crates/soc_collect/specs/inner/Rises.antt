-- Whether a count has risen, as a test.
use Rattle.std.specs.Prelude.{ℕ, Bool, ◌||◌, nat_lt, nat_le}
use Rattle.soc_edge.specs.Faults.{last_count}

abbrev pub has_risen : ℕ → ℕ → Bool
has_risen before after = nat_lt before after || nat_le last_count after
