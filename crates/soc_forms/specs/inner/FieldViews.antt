-- What contracts see of fields.
use Rattle.soc_forms.specs.declared.fields.Fields.{Fields}
use Rattle.soc_forms.specs.Fields.{FieldTexts}

abbrev pub fields_text : Fields → FieldTexts
fields_text f = record { sent = f.sent; annotations = f.annotations }
