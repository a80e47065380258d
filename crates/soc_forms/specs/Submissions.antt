-- What a message must hold to be a submission, and what it says (RFC 7578), in this project's profile.
use Rattle.std.specs.Prelude.{◌≡◌, ◌≢◌, ℕ, ◌+◌, ◌==◌, nat_lt, nat_le, ◌⊎◌, Bool, true, List, [], ◌∷◌, length, filter, codes, MatchOption, Option, None, Some, is_some, if◌then◌else◌, ⊤}
use Rattle.serde_json.specs.Data.{Members}
use Rattle.soc_base.specs.Names.{value_of}
use Rattle.soc_raw.specs.CrashId.{IsId}
use Rattle.soc_forms.specs.declared.form_error.FormError.{FormError}
use Rattle.soc_forms.specs.declared.form_error.FormError.TheVariants.{Malformed, NoMemory}
use Rattle.soc_multipart.specs.declared.parts.PartsError.TheVariants as fault
use Rattle.soc_forms.specs.declared.reasons.Reason.{Reason}
use Rattle.soc_forms.specs.declared.reasons.Reason.TheVariants.{NoFirst, BadPartHead, NoClose, TooManyParts, BadExtra, ExtraAndPlain, TooManyAnnotations, NoAnnotations, LongProduct}
use Rattle.soc_forms.specs.Extras.{IsExtra, with_members}
use Rattle.soc_forms.specs.Fields.{FieldTexts, no_fields, is_extra, is_plain, plain_fields, dumps_of}
use Rattle.soc_forms.specs.FormLines.{AreFormLines, LinesFault}
use Rattle.soc_multipart.specs.Parts.{PartText, Cut, CutFault}

-- the most annotations, `uuid` counted
abbrev pub annotations_limit : ℕ
annotations_limit = 1024

-- the longest name of a product, in bytes
abbrev pub product_limit : ℕ
product_limit = 1024

-- what a submission says: the id that the reporter sent, annotations and dumps
pub record SubmissionText : Type 0 where
  pub sent_id : Option (List ℕ)
  pub annotations : List (List ℕ × List ℕ)
  pub dumps : List (List ℕ × List ℕ)

-- the fields that the parts say, by the one JSON part or by plain parts
abbrev pub SaysFields : List PartText → FieldTexts → Type 0
SaysFields parts fields =
    ((filter is_extra parts ≡ []) × (fields ≡ plain_fields parts))
    ⊎ ((extra : PartText) × (members : Members) × (filter is_extra parts ≡ extra ∷ []) × IsExtra extra.content members
    × (filter is_plain parts ≡ []) × (fields ≡ with_members no_fields members))

-- how many names of annotations there are, `uuid` counted
abbrev pub count_of : FieldTexts → ℕ
count_of fields = length fields.annotations + (if is_some fields.sent then 1 else 0)

abbrev pub is_short : Option (List ℕ) → Bool
is_short None = true
is_short (Some product) = nat_le (length product) product_limit

-- there is no product, or its name isn't too long
abbrev pub has_short_product : List (List ℕ × List ℕ) → Bool
has_short_product annotations = is_short (value_of annotations (codes "ProductName"))

-- the first reason why fields are none of a submission
abbrev pub fields_fault : FieldTexts → Option Reason
fields_fault fields =
    if nat_lt annotations_limit (count_of fields) then Some TooManyAnnotations
    else if length fields.annotations == 0 then Some NoAnnotations
    else if has_short_product fields.annotations then None
    else Some LongProduct

-- a sent text gives an id where it is one
abbrev pub IsSentId : Option (List ℕ) → Option (List ℕ) → Type 0
IsSentId None id = id ≡ None
IsSentId (Some text) id = MatchOption id (¬ (IsId text)) (λ value. IsId text × (value ≡ text))

-- the parts say this
pub record SaysSubmission (parts : List PartText) (said : SubmissionText) : Type 0 where
  pub fields : FieldTexts
  pub says : SaysFields parts fields
  pub good : fields_fault fields ≡ None
  pub sent : IsSentId fields.sent said.sent_id
  pub annotations_are : said.annotations ≡ fields.annotations
  pub dumps_are : said.dumps ≡ dumps_of parts

-- two JSON parts, or one that is no object without floats
abbrev pub HasBadExtra : List PartText → Type 0
HasBadExtra parts =
    ((first : PartText) × (second : PartText) × (more : List PartText) × (filter is_extra parts ≡ first ∷ second ∷ more))
    ⊎ ((extra : PartText) × (filter is_extra parts ≡ extra ∷ []) × ((members : Members) → ¬ (IsExtra extra.content members)))

-- the fields that the parts say have this fault first
abbrev pub HasFieldsFault : List PartText → Reason → Type 0
HasFieldsFault parts reason = (fields : FieldTexts) × SaysFields parts fields × (fields_fault fields ≡ Some reason)

-- the first reason why parts are no submission
abbrev pub SaysFault : List PartText → Reason → Type 0
SaysFault parts BadExtra = HasBadExtra parts
SaysFault parts ExtraAndPlain =
    (extra : PartText) × (members : Members) × (filter is_extra parts ≡ extra ∷ []) × IsExtra extra.content members
    × (filter is_plain parts ≢ [])
SaysFault parts TooManyAnnotations = HasFieldsFault parts TooManyAnnotations
SaysFault parts NoAnnotations = HasFieldsFault parts NoAnnotations
SaysFault parts LongProduct = HasFieldsFault parts LongProduct
SaysFault parts _ = ⊥

-- the first reason why a body of this boundary is no submission
abbrev pub BodyFault : List ℕ → List ℕ → Reason → Type 0
BodyFault boundary body NoFirst = CutFault boundary body fault.NoFirst
BodyFault boundary body BadPartHead = (part : ℕ) × CutFault boundary body (fault.BadPartHead part)
BodyFault boundary body NoClose = CutFault boundary body fault.NoClose
BodyFault boundary body TooManyParts = CutFault boundary body fault.TooManyParts
BodyFault boundary body reason = (parts : List PartText) × Cut boundary body parts × SaysFault parts reason

-- the message, by its lines and its body, is this submission
pub record SubmissionOf (encoding : Option (List ℕ)) (kinds : List (List ℕ × List ℕ)) (body : List ℕ) (said : SubmissionText) : Type 0 where
  pub boundary : List ℕ
  pub parts : List PartText
  pub lines : AreFormLines encoding kinds boundary
  pub cut : Cut boundary body parts
  pub says : SaysSubmission parts said

-- the first reason why the message is no submission: of its lines, else of its body
abbrev pub SubmissionFault : Option (List ℕ) → List (List ℕ × List ℕ) → List ℕ → Reason → Type 0
SubmissionFault encoding kinds body reason =
    LinesFault encoding kinds reason ⊎ ((boundary : List ℕ) × AreFormLines encoding kinds boundary × BodyFault boundary body reason)

-- a message is refused by its first reason; want of memory is free
abbrev pub SubmissionRefusal : Option (List ℕ) → List (List ℕ × List ℕ) → List ℕ → FormError → Type 0
SubmissionRefusal encoding kinds body (Malformed reason) = SubmissionFault encoding kinds body reason
SubmissionRefusal encoding kinds body NoMemory = ⊤

-- the same of parts
abbrev pub SaysRefusal : List PartText → FormError → Type 0
SaysRefusal parts (Malformed reason) = SaysFault parts reason
SaysRefusal parts NoMemory = ⊤

-- a body is refused by its first reason; want of memory is free
abbrev pub BodyRefusal : List ℕ → List ℕ → FormError → Type 0
BodyRefusal boundary body (Malformed reason) = BodyFault boundary body reason
BodyRefusal boundary body NoMemory = ⊤

-- a message is one submission at most, or has one reason to be refused
pub record IsOneSubmission : Type 0 where
  pub once : (encoding : Option (List ℕ)) (kinds : List (List ℕ × List ℕ)) (body : List ℕ) (said said' : SubmissionText)
      → SubmissionOf encoding kinds body said → SubmissionOf encoding kinds body said' → said ≡ said'
  pub not_refused : (encoding : Option (List ℕ)) (kinds : List (List ℕ × List ℕ)) (body : List ℕ) (said : SubmissionText) (reason : Reason)
      → SubmissionOf encoding kinds body said → ¬ (SubmissionFault encoding kinds body reason)
  pub one_reason : (encoding : Option (List ℕ)) (kinds : List (List ℕ × List ℕ)) (body : List ℕ) (reason reason' : Reason)
      → SubmissionFault encoding kinds body reason → SubmissionFault encoding kinds body reason' → reason ≡ reason'
