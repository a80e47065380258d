-- A count that has risen, by the test.
use Rattle.std.proofs.Common.{◌≡◌, ℕ, Bool, true, false, ◌||◌, inl, inr, refl, arith}
use Rattle.std.specs.Prelude.{nat_lt, nat_le}
use Rattle.std.proofs.lemmas.Bool.Decides.{nat_tests}
use Rattle.soc_edge.specs.Faults.{Rose, last_count}
use Rattle.soc_collect.specs.inner.Rises.{has_risen}

pub risen : (before after : ℕ) → Rose before after → has_risen before after ≡ true
risen before after (inl rose) = grind (arith, nat_tests)
risen before after (inr last) = grind (arith, nat_tests)

pub rose_of : (before after : ℕ) → has_risen before after ≡ true → Rose before after
rose_of before after is = by (nat_lt before after) refl is
  where
    by : (b : Bool) → nat_lt before after ≡ b → (b || nat_le last_count after) ≡ true → Rose before after
    by true below either = inl (grind (arith, nat_tests))
    by false above either = inr (grind (arith, nat_tests))
