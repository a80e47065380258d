-- What everybody may see of a sample.
use Rattle.std.proofs.Common.{◌≡◌, ℕ, List, [], ◌∷◌, refl, sym, subst, codes}
use Rattle.std.specs.Prelude.{IsTrue}
use Rattle.std.specs.List.{AllByRecursion}
use Rattle.soc_schema.specs.declared.caller.Caller.{Caller}
use Rattle.soc_schema.specs.declared.permission.Permissions.{Permissions}
use Rattle.soc_schema.specs.declared.value.Cell.{Cell}
use Rattle.soc_schema.specs.declared.value.Value.{Value}
use Rattle.soc_schema.specs.Fields.{field_entry, field_of_annotation, field_table, permission_of, permission_of_annotation, product_field}
use Rattle.soc_schema.specs.Permits.{holds, is_granted}
use Rattle.soc_schema.specs.Rows.{cell}

product-name : (permissions : Permissions) → IsTrue (holds permissions (permission_of_annotation (codes "ProductName")))
unfolding field_of_annotation field_table permission_of field_entry
product-name permissions = refl

pub product-annotation : (permissions : Permissions) (texts : List (List ℕ × List ℕ)) (value : List ℕ) → texts ≡ (codes "ProductName", value) ∷ []
    → AllByRecursion (λ pair. IsTrue (holds permissions (permission_of_annotation pair.0))) texts
product-annotation permissions texts value is =
    subst (λ l. AllByRecursion (λ pair. IsTrue (holds permissions (permission_of_annotation pair.0))) l) (sym is) (product-name permissions, tt)

product-granted : (caller : Caller) → IsTrue (is_granted caller product_field)
unfolding permission_of field_entry field_table
product-granted caller = refl

pub product-row : (caller : Caller) (row : List Cell) (value : Value) → row ≡ cell product_field value ∷ []
    → AllByRecursion (λ c. IsTrue (is_granted caller c.field)) row
product-row caller row value is = subst (λ l. AllByRecursion (λ c. IsTrue (is_granted caller c.field)) l) (sym is) (product-granted caller, tt)
