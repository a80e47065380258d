-- The fields of a report: this project's own table, and what each of its columns says of a field. A field is its
-- place in the table, from 0.
use Rattle.std.specs.Prelude.{ℕ, ◌<◌, Bool, false, List, [], ◌∷◌, Option, None, Some, slice_index_or, codes, position, nat_eq}
use Rattle.std.specs.Option.{option_map_or}
use lib.Pointwise.{pointwise}
use Rattle.soc_schema.specs.declared.permission.Permission.{Permission}
use Rattle.soc_schema.specs.declared.permission.Permission.TheVariants.{Public, ProtectedData}
use Rattle.soc_schema.specs.declared.field.FieldKind.{FieldKind}
use Rattle.soc_schema.specs.declared.field.FieldKind.TheVariants.{Text, Number, Flag}

-- one line of the table: the source is the annotation that alone makes the field
pub record FieldEntry : Type 0 where
  pub name : List ℕ
  pub kind : FieldKind
  pub permission : Permission
  pub source : Option (List ℕ)

-- a field that comes from one annotation
abbrev pub from_annotation : List ℕ → FieldKind → Permission → List ℕ → FieldEntry
from_annotation n k p s = record { name = n; kind = k; permission = p; source = Some s }

-- a field that comes from the dump, from several annotations, or from the service
abbrev pub made : List ℕ → FieldKind → Permission → FieldEntry
made n k p = record { name = n; kind = k; permission = p; source = None }

unfoldable pub field_table : List FieldEntry
field_table =
    from_annotation (codes "abort_message") Text ProtectedData (codes "AbortMessage")
    ∷ from_annotation (codes "adapter_device_id") Text Public (codes "AdapterDeviceID")
    ∷ from_annotation (codes "adapter_vendor_id") Text Public (codes "AdapterVendorID")
    ∷ from_annotation (codes "addons") Text ProtectedData (codes "Add-ons")
    ∷ made (codes "address") Text ProtectedData
    ∷ from_annotation (codes "async_shutdown_timeout") Text ProtectedData (codes "AsyncShutdownTimeout")
    ∷ from_annotation (codes "available_page_file") Number Public (codes "AvailablePageFile")
    ∷ from_annotation (codes "build_id") Number Public (codes "BuildID")
    ∷ made (codes "cpu_arch") Text Public
    ∷ made (codes "cpu_count") Number Public
    ∷ made (codes "crashing_thread") Number Public
    ∷ made (codes "date") Text Public
    ∷ from_annotation (codes "email") Text ProtectedData (codes "Email")
    ∷ made (codes "frame_count") Number Public
    ∷ made (codes "install_age") Number Public
    ∷ from_annotation (codes "ipc_channel_error") Text Public (codes "ipc_channel_error")
    ∷ made (codes "module_count") Number Public
    ∷ from_annotation (codes "moz_crash_reason") Text Public (codes "MozCrashReason")
    ∷ made (codes "notes") Text ProtectedData
    ∷ from_annotation (codes "oom_allocation_size") Number Public (codes "OOMAllocationSize")
    ∷ made (codes "platform") Text Public
    ∷ made (codes "platform_version") Text Public
    ∷ from_annotation (codes "process_type") Text Public (codes "ProcessType")
    ∷ from_annotation (codes "product") Text Public (codes "ProductName")
    ∷ made (codes "proto_signature") Text Public
    ∷ made (codes "reason") Text Public
    ∷ from_annotation (codes "release_channel") Text Public (codes "ReleaseChannel")
    ∷ made (codes "signature") Text Public
    ∷ from_annotation (codes "startup_crash") Flag Public (codes "StartupCrash")
    ∷ made (codes "success") Flag Public
    ∷ made (codes "throttle_rule") Text Public
    ∷ made (codes "uptime") Number Public
    ∷ from_annotation (codes "url") Text ProtectedData (codes "URL")
    ∷ from_annotation (codes "user_comments") Text ProtectedData (codes "Comments")
    ∷ made (codes "uuid") Text Public
    ∷ from_annotation (codes "version") Text Public (codes "Version")
    ∷ []

-- a place in the table
abbrev pub IsField : ℕ → Type 0
IsField f = f < 36

unfoldable pub field_entry : ℕ → FieldEntry
field_entry f = slice_index_or field_table f (made [] Text Public)

unfoldable pub name_of : ℕ → List ℕ
name_of f = (field_entry f).name

unfoldable pub kind_of : ℕ → FieldKind
kind_of f = (field_entry f).kind

unfoldable pub permission_of : ℕ → Permission
permission_of f = (field_entry f).permission

unfoldable pub source_of : ℕ → Option (List ℕ)
source_of f = (field_entry f).source

-- the texts are the same
abbrev pub is_text : List ℕ → List ℕ → Bool
is_text = pointwise nat_eq

-- the text is the annotation that alone makes the field
abbrev pub comes_from : List ℕ → FieldEntry → Bool
comes_from text e = option_map_or (λ s. is_text s text) e.source false

-- the field of that name, and the field of which that annotation is the one source
unfoldable pub field_named : List ℕ → Option ℕ
field_named text = position (λ e. is_text e.name text) field_table

unfoldable pub field_of_annotation : List ℕ → Option ℕ
field_of_annotation text = position (comes_from text) field_table

-- what it takes to see an annotation
abbrev pub permission_of_annotation : List ℕ → Permission
permission_of_annotation text = option_map_or permission_of (field_of_annotation text) ProtectedData

-- the fields that tell which crash a report is of
abbrev pub uuid_field : ℕ
uuid_field = 34

abbrev pub product_field : ℕ
product_field = 23

-- the fields that searches and counts show by themselves
abbrev pub date_field : ℕ
date_field = 11

abbrev pub signature_field : ℕ
signature_field = 27

abbrev pub version_field : ℕ
version_field = 35
