-- Who may see what.
use Rattle.std.specs.Prelude.{ℕ, Bool, false, true, List, filter, Option, None, Some, IsTrue, Contains, bytes_eq, codes, ⊤}
use Rattle.std.specs.List.{list_any}
use Rattle.soc_schema.specs.declared.permission.Permission.{Permission}
use Rattle.soc_schema.specs.declared.permission.Permission.TheVariants.{Public, ProtectedData, ViewRawdump, ReprocessCrashes, Operate}
use Rattle.soc_schema.specs.declared.permission.Permissions.{Permissions}
use Rattle.soc_schema.specs.declared.caller.Products.{Products}
use Rattle.soc_schema.specs.declared.caller.Products.TheVariants.{All as AllProducts, Some as OnlyProducts}
use Rattle.soc_schema.specs.declared.caller.Caller.{Caller}
use Rattle.soc_schema.specs.declared.value.Cell.{Cell}
use Rattle.soc_schema.specs.Fields.{permission_of, permission_of_annotation}

-- the word for a permission
abbrev pub permission_name : Permission → List ℕ
permission_name Public = codes "public"
permission_name ProtectedData = codes "protected_data"
permission_name ViewRawdump = codes "view_rawdump"
permission_name ReprocessCrashes = codes "reprocess_crashes"
permission_name Operate = codes "operate"

-- whether the set has the permission
abbrev pub holds : Permissions → Permission → Bool
holds s Public = true
holds s ProtectedData = s.protected_data
holds s ViewRawdump = s.view_rawdump
holds s ReprocessCrashes = s.reprocess_crashes
holds s Operate = s.operate

-- the set that has `Public` alone
abbrev pub public_alone : Permissions
public_alone =
    record { protected_data = false; view_rawdump = false; reprocess_crashes = false; operate = false }

-- the set with one permission more
abbrev pub with_permission : Permissions → Permission → Permissions
with_permission s Public = s
with_permission s ProtectedData = record s { protected_data = true }
with_permission s ViewRawdump = record s { view_rawdump = true }
with_permission s ReprocessCrashes = record s { reprocess_crashes = true }
with_permission s Operate = record s { operate = true }

-- the caller may see the field
abbrev pub Granted : Caller → ℕ → Type 0
Granted caller f = IsTrue (holds caller.permissions (permission_of f))

-- these products are shown: each of them, or those of the list
abbrev pub Shows : Products → Option (List ℕ) → Type 0
Shows AllProducts product = ⊤
Shows (OnlyProducts names) None = ⊥
Shows (OnlyProducts names) (Some product) = Contains names product

-- the caller may see the crashes of the product, or those without one
abbrev pub Visible : Caller → Option (List ℕ) → Type 0
Visible caller product = Shows caller.products product

-- the same as a test
abbrev pub shows : Products → Option (List ℕ) → Bool
shows AllProducts product = true
shows (OnlyProducts names) None = false
shows (OnlyProducts names) (Some product) = list_any (bytes_eq product) names

-- the caller may see the field, as a test
abbrev pub is_granted : Caller → ℕ → Bool
is_granted caller f = holds caller.permissions (permission_of f)

-- the fields of a row that the caller may see
abbrev pub granted_cells : Caller → List Cell → List Cell
granted_cells caller cells = filter (λ c. is_granted caller c.field) cells

-- the annotations that the caller may see
abbrev pub granted_annotations : Caller → List (List ℕ × List ℕ) → List (List ℕ × List ℕ)
granted_annotations caller pairs = filter (λ pair. holds caller.permissions (permission_of_annotation pair.0)) pairs
