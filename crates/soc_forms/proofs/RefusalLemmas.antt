-- How a refusal of the body, or of its parts, is the message's.
use Rattle.std.proofs.Common.{◌≡◌, ℕ, ◌≤◌, List, [], ◌++◌, length, sym, subst, inl, inr, Option}
use Rattle.std.proofs.lemmas.List.{append-nil}
use Rattle.soc_forms.specs.declared.form_error.FormError.{FormError}
use Rattle.soc_forms.specs.declared.form_error.FormError.TheVariants.{Malformed, NoMemory}
use Rattle.soc_multipart.specs.declared.parts.PartsError.{PartsError}
use Rattle.soc_forms.specs.declared.reasons.Reason.{Reason}
use Rattle.soc_forms.specs.declared.reasons.Reason.TheVariants.{BadExtra, ExtraAndPlain, TooManyAnnotations, NoAnnotations, LongProduct}
use Rattle.soc_multipart.specs.Delimiters.{IsBoundary}
use Rattle.soc_forms.specs.FormLines.{AreFormLines}
use Rattle.soc_multipart.specs.Parts.{PartText, Cut}
use Rattle.soc_multipart.specs.Readers.{ReaderText, RefusesBody, RefusesFor, WasFed}
use Rattle.soc_forms.specs.Fits.{FitsCrash}
use Rattle.soc_forms.proofs.FitLemmas.{body_fits}
use Rattle.soc_forms.specs.Forms.{BodySays, FormRefusesFor}
use Rattle.soc_forms.specs.Submissions.{SubmissionText, SubmissionOf, SaysSubmission, SaysFault, SaysRefusal, BodyFault, BodyRefusal, SubmissionRefusal}

refusal_lifts : (encoding : Option (List ℕ)) (kinds : List (List ℕ × List ℕ)) (body b : List ℕ) (error : FormError) → AreFormLines encoding kinds b → BodyRefusal b body error → SubmissionRefusal encoding kinds body error
refusal_lifts encoding kinds body b (Malformed reason) lines h = inr (b, lines, h)
refusal_lifts encoding kinds body b NoMemory lines h = tt

-- a refusal of each body that begins so is one of this body
pub feed_refusal_lifts : (encoding : Option (List ℕ)) (kinds : List (List ℕ × List ℕ)) (body b : List ℕ) (error : FormError) → AreFormLines encoding kinds b → FormRefusesFor b ([] ++ body) error
    → SubmissionRefusal encoding kinds body error
feed_refusal_lifts encoding kinds body b error lines h =
    refusal_lifts encoding kinds body b error lines (subst (λ (x : List ℕ). BodyRefusal b x error) (append-nil body) (h []))

-- a refusal of the body at its end
pub finish_refusal_lifts : (encoding : Option (List ℕ)) (kinds : List (List ℕ × List ℕ)) (body b now : List ℕ) (error : FormError) → AreFormLines encoding kinds b → now ≡ b → BodyRefusal now body error
    → SubmissionRefusal encoding kinds body error
finish_refusal_lifts encoding kinds body b now error lines e h =
    refusal_lifts encoding kinds body b error lines (subst (λ (x : List ℕ). BodyRefusal x body error) e h)

pub says_lifts : (encoding : Option (List ℕ)) (kinds : List (List ℕ × List ℕ)) (body b now : List ℕ) (said : SubmissionText) → AreFormLines encoding kinds b → now ≡ b → BodySays now body said
    → SubmissionOf encoding kinds body said
says_lifts encoding kinds body b now said lines e (parts, cut, says) =
    record { boundary = b; parts = parts; lines = lines; cut = subst (λ (x : List ℕ). Cut x body parts) e cut; says = says }

says_body : (b body : List ℕ) (parts : List PartText) (reason : Reason) → Cut b body parts → SaysFault parts reason → BodyFault b body reason
says_body b body parts BadExtra c h = (parts, c, h)
says_body b body parts ExtraAndPlain c h = (parts, c, h)
says_body b body parts TooManyAnnotations c h = (parts, c, h)
says_body b body parts NoAnnotations c h = (parts, c, h)
says_body b body parts LongProduct c h = (parts, c, h)
says_body b body parts _ c h = absurd h

pub says_refusal : (b body : List ℕ) (parts : List PartText) (error : FormError) → Cut b body parts → SaysRefusal parts error → BodyRefusal b body error
says_refusal b body parts (Malformed reason) c h = says_body b body parts reason c h
says_refusal b body parts NoMemory c h = tt

-- a refusal of the reader's, whatever follows
pub feed_refusal : (b fed : List ℕ) (refusal : PartsError) (error : FormError) → IsBoundary b → ((body : List ℕ) → RefusesBody b body refusal → BodyRefusal b body error) → RefusesFor b fed refusal → FormRefusesFor b fed error
feed_refusal b fed refusal error good named (inl e) more = named (fed ++ more) (inl e)
feed_refusal b fed refusal error good named (inr h) more = named (fed ++ more) (inr (h more))

pub form_refusal : (form reader : ReaderText) (piece fed : List ℕ) (refusal : PartsError) (error : FormError) → reader ≡ form
    → ((b body : List ℕ) → IsBoundary b → RefusesBody b body refusal → BodyRefusal b body error)
    → ((fed : List ℕ) → WasFed reader fed → RefusesFor reader.boundary (fed ++ piece) refusal) → WasFed form fed → FormRefusesFor form.boundary (fed ++ piece) error
form_refusal form reader piece fed refusal error e named refused w =
    let v : WasFed reader fed = subst (λ (r : ReaderText). WasFed r fed) (sym e) w in
    subst (λ (r : ReaderText). FormRefusesFor r.boundary (fed ++ piece) error) e
    (feed_refusal reader.boundary (fed ++ piece) refusal error v.good (λ body r. named reader.boundary body v.good r) (refused fed v))

pub form_end_refusal : (form reader : ReaderText) (fed : List ℕ) (refusal : PartsError) (error : FormError) → reader ≡ form
    → ((b body : List ℕ) → IsBoundary b → RefusesBody b body refusal → BodyRefusal b body error)
    → ((fed : List ℕ) → WasFed reader fed → RefusesBody reader.boundary fed refusal) → WasFed form fed → BodyRefusal form.boundary fed error
form_end_refusal form reader fed refusal error e named refused w =
    let v : WasFed reader fed = subst (λ (r : ReaderText). WasFed r fed) (sym e) w in
    subst (λ (r : ReaderText). BodyRefusal r.boundary fed error) e (named reader.boundary fed v.good (refused fed v))

pub form_fits : (form reader : ReaderText) (fed : List ℕ) (parts : List PartText) (said : SubmissionText) → reader ≡ form
    → ((fed : List ℕ) → WasFed reader fed → Cut reader.boundary fed parts) → WasFed form fed → SaysSubmission parts said → length fed ≤ 16777216 → FitsCrash said
form_fits form reader fed parts said e cut w says short =
    let v : WasFed reader fed = subst (λ (r : ReaderText). WasFed r fed) (sym e) w in body_fits reader.boundary fed parts said (cut fed v) says short
