-- Worked examples of the definitions.
use Rattle.std.specs.Prelude.{◌≡◌, ℕ, List, [], ◌∷◌, None, Some, Ok, Err, true, codes, refl}
use Rattle.toml.specs.Data.{Data, string, array, table, item, no_items, member, no_members, integer}
use Rattle.std.specs.Prelude.{pos}
use Rattle.soc_schema.specs.declared.permission.Permission.TheVariants.{Public, ProtectedData}
use Rattle.soc_schema.specs.declared.field.FieldKind.TheVariants.{Flag as FlagKind}
use Rattle.soc_schema.specs.declared.value.Value.TheVariants.{Text, Number, Flag}
use Rattle.soc_schema.specs.Fields.{field_table, field_entry, name_of, kind_of, permission_of, field_named, field_of_annotation, permission_of_annotation, uuid_field, product_field}
use Rattle.soc_schema.specs.Rows.{cell, with_value}
use Rattle.soc_schema.specs.RowText.{row_text}
use Rattle.soc_schema.specs.TokenFile.{tokens_of}

url_is_protected : permission_of 32 ≡ ProtectedData
unfolding permission_of field_entry field_table
url_is_protected = refl

uuid_is_named : name_of uuid_field ≡ codes "uuid"
unfolding name_of field_entry field_table
uuid_is_named = refl

product_is_named : field_named (codes "product") ≡ Some product_field
unfolding field_named field_table
product_is_named = refl

names_have_case : field_named (codes "URL") ≡ None
unfolding field_named field_table
names_have_case = refl

success_is_a_flag : kind_of 29 ≡ FlagKind
unfolding kind_of field_entry field_table
success_is_a_flag = refl

-- `CrashTime` is one of two sources, of `install_age` and of `uptime`
no_one_source : permission_of_annotation (codes "CrashTime") ≡ ProtectedData
unfolding field_of_annotation field_table permission_of field_entry
no_one_source = refl

version_is_public : permission_of_annotation (codes "Version") ≡ Public
unfolding field_of_annotation field_table permission_of field_entry
version_is_public = refl

replaced : with_value (cell 7 (Number 1) ∷ cell 29 (Flag true) ∷ []) 7 (Number 2) ≡ cell 7 (Number 2) ∷ cell 29 (Flag true) ∷ []
replaced = refl

two_fields : row_text (cell 23 (Text (codes "F")) ∷ cell 29 (Flag true) ∷ []) ≡ 2 ∷ 0 ∷ 0 ∷ 0 ∷ 23 ∷ 0 ∷ 1 ∷ 0 ∷ 0 ∷ 0 ∷ 70 ∷ 29 ∷ 2 ∷ 1 ∷ []
two_fields = refl

abbrev token : List ℕ → Data
token key =
    table (member (codes "key") (string key) (member (codes "permissions") (array no_items) (member (codes "products") (string (codes "all")) no_members)))

abbrev document : Data → Data → Data
document a b = table (member (codes "token") (array (item a (item b no_items))) no_members)

no_tokens : tokens_of (table no_members) ≡ Ok []
unfolding tokens_of
no_tokens = refl

no_table : tokens_of (integer (pos 1)) ≡ Err 0
unfolding tokens_of
no_table = refl

same_key : tokens_of (document (token (codes "k")) (token (codes "k"))) ≡ Err 1
unfolding tokens_of
same_key = refl

blank_in_key : tokens_of (document (token (codes "a b")) (token (codes "k"))) ≡ Err 0
unfolding tokens_of
blank_in_key = refl
