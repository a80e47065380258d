-- What contracts see of a submission.
use Rattle.std.specs.Prelude.{◌≡◌, ℕ, ◌+◌, ◌<◌, List, ◌∷◌, length, drop, filter, slice_get, Some}
use Rattle.soc_multipart.specs.declared.owned_parts.OwnedPart.{OwnedPart}
use Rattle.soc_forms.specs.Fields.{is_extra}
use Rattle.soc_multipart.specs.OwnedViews.{owned_text, owned_texts}
use Rattle.soc_forms.specs.declared.submissions.Submission.{Submission}
use Rattle.soc_forms.specs.Submissions.{SubmissionText}

abbrev pub submission_text : Submission → SubmissionText
submission_text s = record { sent_id = s.sent_id; annotations = s.annotations; dumps = s.dumps }

-- the first JSON part from that place on stands at this one
pub record HasNextExtra (parts : List OwnedPart) (from place : ℕ) : Type 0 where
  pub part : OwnedPart
  pub inside : place < length parts
  pub stands : slice_get parts place ≡ Some part
  pub first : filter is_extra (owned_texts (drop from parts)) ≡ owned_text part ∷ filter is_extra (owned_texts (drop (place + 1) parts))
