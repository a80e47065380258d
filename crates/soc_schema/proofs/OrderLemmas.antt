-- The order of values is total, and only equal ones tie.
use Rattle.std.proofs.Common.{◌≡◌, true, false, refl}
use Rattle.std.specs.Cmp.{IsTotalOrder}
use Rattle.std.specs.Cmp.Lexicographic.{nat_list_cmp_total}
use Rattle.std.proofs.lemmas.Cmp.{on_total}
use Rattle.std.proofs.lemmas.Map.Lookups.{CmpEqualImpliesEq, exact_bytes}
use Rattle.soc_schema.specs.declared.value.Value.{Value}
use Rattle.soc_schema.specs.declared.value.Value.TheVariants.{Text, Number, Flag}
use Rattle.soc_schema.specs.Orders.{value_cmp, value_key}

pub value_total : IsTotalOrder value_cmp
value_total = on_total value_key nat_list_cmp_total

same_value : (v w : Value) → value_key v ≡ value_key w → v ≡ w
same_value (Text a) (Text b) e = cc
same_value (Text a) (Number n) e = cc
same_value (Text a) (Flag b) e = cc
same_value (Number n) (Text b) e = cc
same_value (Number n) (Number m) e = cc
same_value (Number n) (Flag b) e = cc
same_value (Flag a) (Text b) e = cc
same_value (Flag a) (Number n) e = cc
same_value (Flag true) (Flag true) e = refl
same_value (Flag true) (Flag false) e = cc
same_value (Flag false) (Flag true) e = cc
same_value (Flag false) (Flag false) e = refl

pub value_exact : CmpEqualImpliesEq value_cmp
value_exact v w e = same_value v w (exact_bytes (value_key v) (value_key w) e)
