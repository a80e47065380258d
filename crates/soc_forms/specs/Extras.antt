-- The JSON part of a form, as `serde_json` reads it (RFC 8259), in this project's profile.
use Rattle.std.specs.Prelude.{◌≡◌, ℕ, false, List, Some, IsUtf8, unwrap_or}
use Rattle.serde_json.specs.Data.{Data, object, Members, no_members, member}
use Rattle.serde_json.specs.Read.{read as read_text}
use Rattle.serde_json.specs.Find.{as_str}
use Rattle.serde_json.specs.Written.{members_have_float, compact_text}
use Rattle.soc_forms.specs.Fields.{FieldTexts, put}

-- the content is the text of an object of these members, and no number in it is a float
pub record IsExtra (content : List ℕ) (members : Members) : Type 0 where
  pub utf8 : IsUtf8 content
  pub reads : read_text content ≡ Some (object members)
  pub exact : members_have_float members ≡ false

-- a text as it is, and any other value as its compact text
abbrev pub text_of : Data → List ℕ
text_of value = unwrap_or (as_str value) (compact_text value)

-- the fields with each member, in order
abbrev pub with_members : FieldTexts → Members → FieldTexts
with_members fields no_members = fields
with_members fields (member name value members) = with_members (put fields name (text_of value)) members
