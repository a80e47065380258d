use Rattle.std.proofs.Common.{◌≡◌, take}
use Rattle.soc_forms.specs.Fields.{plain_fields}
use Rattle.soc_forms.specs.inner.FieldViews.{fields_text}
use Rattle.soc_multipart.specs.OwnedViews.{owned_texts}
use Rattle.soc_forms.proofs.fields.plain_fields.Given as goal

abbrev pub invariant-loop-part : goal.invariant-loop-part
invariant-loop-part l = fields_text l.fields ≡ plain_fields (owned_texts (take l.part-index l.parts))
