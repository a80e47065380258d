-- The order of products.
use Rattle.std.specs.Prelude.{ℕ, List, [], ◌∷◌, Option, None, Some}
use Rattle.std.specs.declared.cmp.Ordering.{Ordering}
use Rattle.std.specs.Ordering.{nat_cmp}
use Rattle.std.specs.Cmp.Lexicographic.{slice_cmp}

-- no product, or a product's bytes
abbrev pub product_key : Option (List ℕ) → List ℕ
product_key None = []
product_key (Some t) = 0 ∷ t

-- no product first, and then by bytes
abbrev pub product_cmp : Option (List ℕ) → Option (List ℕ) → Ordering
product_cmp p q = slice_cmp nat_cmp (product_key p) (product_key q)
