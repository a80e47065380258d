-- The order of values, and lists in an order.
use Rattle.std.specs.Prelude.{ℕ, Bool, List, [], ◌∷◌, if◌then◌else◌}
use Rattle.std.specs.declared.cmp.Ordering.{Ordering}
use Rattle.std.specs.Ordering.{nat_cmp, is_gt}
use Rattle.std.specs.Cmp.Lexicographic.{slice_cmp}
use Rattle.soc_schema.specs.declared.value.Value.{Value}
use Rattle.soc_schema.specs.declared.value.Value.TheVariants.{Text, Number, Flag}

abbrev pub flag_number : Bool → ℕ
flag_number b = if b then 1 else 0

-- a value as numbers: its kind, and then its bytes, its number, or 0 for false and 1 for true
abbrev pub value_key : Value → List ℕ
value_key (Text t) = 0 ∷ t
value_key (Number n) = 1 ∷ n ∷ []
value_key (Flag b) = 2 ∷ flag_number b ∷ []

-- texts by their bytes, numbers by size, false before true
abbrev pub value_cmp : Value → Value → Ordering
value_cmp v w = slice_cmp nat_cmp (value_key v) (value_key w)

-- in order: what ties stays as it stands
abbrev pub put_in_order : {X : Type 0} → (X → X → Ordering) → X → List X → List X
put_in_order R x [] = x ∷ []
put_in_order R x (y ∷ ys) = if is_gt (R x y) then y ∷ put_in_order R x ys else x ∷ y ∷ ys

abbrev pub in_order : {X : Type 0} → (X → X → Ordering) → List X → List X
in_order R [] = []
in_order R (x ∷ xs) = put_in_order R x (in_order R xs)
