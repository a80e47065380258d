-- The order of products is total, and only equal ones tie.
use Rattle.std.proofs.Common.{◌≡◌, ℕ, List, Option, None, Some, refl}
use Rattle.std.specs.Cmp.{IsTotalOrder}
use Rattle.std.specs.Cmp.Lexicographic.{nat_list_cmp_total}
use Rattle.std.proofs.lemmas.Cmp.{on_total}
use Rattle.std.proofs.lemmas.Map.Lookups.{CmpEqualImpliesEq, exact_bytes}
use Rattle.soc_store.specs.Orders.{product_cmp, product_key}

pub product_total : IsTotalOrder product_cmp
product_total = on_total product_key nat_list_cmp_total

same_product : (p q : Option (List ℕ)) → product_key p ≡ product_key q → p ≡ q
same_product None None e = refl
same_product None (Some b) e = cc
same_product (Some a) None e = cc
same_product (Some a) (Some b) e = cc

pub product_exact : CmpEqualImpliesEq product_cmp
product_exact p q e = same_product p q (exact_bytes (product_key p) (product_key q) e)
