-- What a form says whose body comes in pieces. It is seen as the reader of its body.
use Rattle.std.specs.Prelude.{◌≡◌, ℕ, List, ◌++◌}
use Rattle.soc_multipart.specs.declared.parts.PartsError.{PartsError}
use Rattle.soc_multipart.specs.declared.parts.PartsError.TheVariants as fault
use Rattle.soc_multipart.specs.Parts.{PartText, Cut}
use Rattle.soc_multipart.specs.Readers.{ReaderText, HasRefused}
use Rattle.soc_forms.specs.declared.form_error.FormError.{FormError}
use Rattle.soc_forms.specs.declared.form_error.FormError.TheVariants.{Malformed, NoMemory}
use Rattle.soc_forms.specs.declared.reasons.Reason.TheVariants.{NoBoundary, NoFirst, BadPartHead, NoClose, TooManyParts}
use Rattle.soc_forms.specs.Submissions.{SubmissionText, SaysSubmission, BodyRefusal}

-- how a form names a refusal of its reader
abbrev pub error_of : PartsError → FormError
error_of fault.BadBoundary = Malformed NoBoundary
error_of fault.NoFirst = Malformed NoFirst
error_of (fault.BadPartHead part) = Malformed BadPartHead
error_of fault.NoClose = Malformed NoClose
error_of fault.TooManyParts = Malformed TooManyParts
error_of fault.NoMemory = NoMemory

-- the form has refused so
abbrev pub FormHasRefused : ReaderText → FormError → Type 0
FormHasRefused form error = (refusal : PartsError) × HasRefused form refusal × (error ≡ error_of refusal)

-- the refusal is that of each body that begins with what was fed, or want of memory
abbrev pub FormRefusesFor : List ℕ → List ℕ → FormError → Type 0
FormRefusesFor boundary fed error = (more : List ℕ) → BodyRefusal boundary (fed ++ more) error

-- a body of this boundary says this
abbrev pub BodySays : List ℕ → List ℕ → SubmissionText → Type 0
BodySays boundary body said = (parts : List PartText) × Cut boundary body parts × SaysSubmission parts said
