use Rattle.std.proofs.Common.{◌≡◌, ◌||◌, ℕ, List}
use Rattle.std.specs.List.{All, AllByRecursion}
use Rattle.std.specs.Map.{keys_of}
use Rattle.soc_base.specs.Names.{IsRising}
use Rattle.soc_siglists.specs.inner.Literals.{IsUpTo, begins_with_one}
use Rattle.soc_siglists.proofs.patterns.literals_of.Given as goal

-- the literals so far stand up to the names that are left, and frames begin with one of these or of those
abbrev pub invariant-loop-name : goal.invariant-loop-name
invariant-loop-name l = record {
  rising : IsRising l.name-iterator;
  up_to : AllByRecursion (λ name. All (IsUpTo name) l.literals) (keys_of l.name-iterator);
  begun : (frame : List ℕ) → (begins_with_one l.literals frame || begins_with_one (keys_of l.name-iterator) frame) ≡ begins_with_one (keys_of l.names) frame;
}
