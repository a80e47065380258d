-- Maps from names to values, as lists of pairs in strictly rising byte order of their names (this project's profile).
use Rattle.std.specs.Prelude.{ℕ, List, Option}
use Rattle.std.specs.declared.cmp.Ordering.{Ordering}
use Rattle.std.specs.Ordering.{nat_cmp}
use Rattle.std.specs.Str.{IsUtf8}
use Rattle.std.specs.List.Sorted.{IsStrictlySortedBy}
use Rattle.std.specs.Cmp.Lexicographic.{slice_cmp}
use Rattle.std.specs.Map.{keys_of, lookup}
use Rattle.std.specs.BTreeMap.{insert_entry, is_at}

-- the order of two texts by their bytes
abbrev pub byte_cmp : List ℕ → List ℕ → Ordering
byte_cmp = slice_cmp nat_cmp

-- each name is below those after it
abbrev pub IsRising : {V : Type 0} → List (List ℕ × V) → Type 0
IsRising ps = IsStrictlySortedBy (slice_cmp nat_cmp) (keys_of ps)

-- the value that a name has, if it has one
abbrev pub value_of : {V : Type 0} → List (List ℕ × V) → List ℕ → Option V
value_of ps name = lookup (is_at (slice_cmp nat_cmp name)) ps

-- the pairs once a name has a value: it stands at its place in the order, or instead of the name's old value
abbrev pub with_value : {V : Type 0} → List (List ℕ × V) → List ℕ → V → List (List ℕ × V)
with_value ps name value = insert_entry (slice_cmp nat_cmp) ps name value

-- a name and a value that are texts
abbrev pub IsText : List ℕ × List ℕ → Type 0
IsText p = IsUtf8 p.0 × IsUtf8 p.1

-- a name that is a text
abbrev pub HasTextName : List ℕ × List ℕ → Type 0
HasTextName p = IsUtf8 p.0
