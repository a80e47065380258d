-- How replies name the reasons why a message is no submission.
use Rattle.std.specs.Prelude.{ℕ, List, codes}
use Rattle.soc_forms.specs.declared.reasons.Reason.{Reason}
use Rattle.soc_forms.specs.declared.reasons.Reason.TheVariants.{ContentEncoding, NoContentType, WrongContentType, NoBoundary, NoFirst, BadPartHead, NoClose, TooManyParts, BadExtra, ExtraAndPlain, TooManyAnnotations, NoAnnotations, LongProduct}

abbrev pub reason_text : Reason → List ℕ
reason_text ContentEncoding = codes "content_encoding"
reason_text NoContentType = codes "no_content_type"
reason_text WrongContentType = codes "wrong_content_type"
reason_text NoBoundary = codes "no_boundary"
reason_text NoFirst = codes "no_first"
reason_text BadPartHead = codes "bad_part_head"
reason_text NoClose = codes "no_close"
reason_text TooManyParts = codes "too_many_parts"
reason_text BadExtra = codes "bad_extra"
reason_text ExtraAndPlain = codes "extra_and_plain"
reason_text TooManyAnnotations = codes "too_many_annotations"
reason_text NoAnnotations = codes "no_annotations"
reason_text LongProduct = codes "product_name"
