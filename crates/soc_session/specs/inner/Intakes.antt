-- How a message's body is taken in: what its head asks for, and what is had of the body once it was read whole.
use Rattle.std.specs.Prelude.{◌≡◌, ℕ, ◌+◌, ◌<◌, List, [], ◌++◌, length, codes, Result, Ok, Err, IfOk, ⊤}
use Rattle.soc_edge.specs.Told.{Told, Reads}
use Rattle.soc_base.specs.declared.no_memory.NoMemory.{NoMemory}
use Rattle.soc_multipart.specs.Readers.{ReaderText, WasFed}
use Rattle.soc_forms.specs.declared.form_error.FormError.{FormError}
use Rattle.soc_forms.specs.declared.reasons.Reason.{Reason}
use Rattle.soc_forms.specs.declared.submissions.Submission.{Submission}
use Rattle.soc_forms.specs.Fits.{FitsCrash}
use Rattle.soc_forms.specs.FormLines.{AreFormLines}
use Rattle.soc_forms.specs.Forms.{BodySays, FormRefusesFor}
use Rattle.soc_forms.specs.SubmissionViews.{submission_text}
use Rattle.soc_forms.specs.Submissions.{BodyFault, BodyRefusal}
use Rattle.soc_http.specs.declared.body.BodyError.{BodyError}
use Rattle.soc_http.specs.declared.body.BodyError.TheVariants as B
use Rattle.soc_http.specs.declared.head.Head.{Head}
use Rattle.soc_http.specs.declared.route.Route.{Route}
use Rattle.soc_http.specs.declared.route.Route.TheVariants as R
use Rattle.soc_http.specs.declared.route.RouteError.{RouteError}
use Rattle.soc_http.specs.declared.route.RouteError.TheVariants as E
use Rattle.soc_http.specs.Body.{BodyFrom}
use Rattle.soc_http.specs.Message.{Message}
use Rattle.soc_http.specs.Query.{query_pairs}
use Rattle.soc_schema.specs.declared.caller.Caller.{Caller}
use Rattle.soc_session.specs.declared.forms.ReplyForm.TheVariants as form
use Rattle.soc_session.specs.declared.intake.Content.{Content}
use Rattle.soc_session.specs.declared.intake.Content.TheVariants.{Decided, Submitted}
use Rattle.soc_session.specs.declared.intake.Intake.{Intake}
use Rattle.soc_session.specs.declared.intake.Intake.TheVariants.{Passes, Feeds, Collects}
use Rattle.soc_session.specs.declared.routes.asks.Action.{Action}
use Rattle.soc_session.specs.declared.rules.Rules.{Rules}
use Rattle.soc_session.specs.Parameters.{crash_named}
use Rattle.soc_session.specs.Plan.{Drawn, Plan, HoldsSubmission, Plans, PlansRoute, PlansSubmission, about, encoding_in, kinds_in, says}
use Rattle.soc_session.specs.Replies.{malformed}
use Rattle.soc_session.specs.inner.Actions.{to_act}
use Rattle.soc_session.specs.inner.Plans.{message_of, plan_text}

-- ---- what a head asks for, whatever its body is

-- a form for the body behind this head, which was fed nothing yet
abbrev pub IsNewForm : Head → ReaderText → Type 0
IsNewForm head fresh = AreFormLines (encoding_in head) (kinds_in head) fresh.boundary × WasFed fresh []

-- what is asked for the crash that a body names
abbrev pub asks_of : Action → Caller → List ℕ → Plan
asks_of action caller body = about (crash_named (codes "crash_ids") (query_pairs body)) (to_act action caller) form.Data

-- a submission's intake
abbrev pub AwaitsSubmission : Head → Result Intake NoMemory → Type 0
AwaitsSubmission head (Ok (Passes plan)) = (rules : Rules) (body : List ℕ) → PlansSubmission rules (message_of head body) [] (plan_text plan)
AwaitsSubmission head (Ok (Feeds fresh)) = IsNewForm head fresh
AwaitsSubmission head (Ok (Collects action caller)) = ⊥
AwaitsSubmission head (Err error) = ⊤

-- the route that is found, or why there is none; want of memory says nothing of it
abbrev pub IsFound : Result Route RouteError → Result Route RouteError → Type 0
IsFound found (Ok route) = found ≡ Ok route
IsFound found (Err E.NoRoute) = found ≡ Err E.NoRoute
IsFound found (Err (E.WrongVerb allow)) = found ≡ Err (E.WrongVerb allow)
IsFound found (Err E.NoMemory) = ⊤

-- a known caller's intake at its route
abbrev pub AwaitsAt : Rules → Route → Caller → Head → Result Intake NoMemory → Type 0
AwaitsAt rules route caller head (Ok (Passes plan)) = (body : List ℕ) → PlansRoute rules (message_of head body) [] (plan_text plan) route caller
AwaitsAt rules route caller head (Ok (Feeds fresh)) = (route ≡ R.Submit) × IsNewForm head fresh
AwaitsAt rules route caller head (Ok (Collects action asker)) = (body : List ℕ) → PlansRoute rules (message_of head body) [] (asks_of action asker body) route caller
AwaitsAt rules route caller head (Err error) = ⊤

-- what a submission of this head comes to is what the message comes to
abbrev pub IsSubmitted : Rules → Head → Type 0
IsSubmitted rules head = (body : List ℕ) (drawn : List Drawn) (plan : Plan) → PlansSubmission rules (message_of head body) drawn plan → Plans rules (message_of head body) drawn plan

-- any intake
abbrev pub Awaits : Rules → Head → Result Intake NoMemory → Type 0
Awaits rules head (Ok (Passes plan)) = (body : List ℕ) → Plans rules (message_of head body) [] (plan_text plan)
Awaits rules head (Ok (Feeds fresh)) = IsSubmitted rules head × IsNewForm head fresh
Awaits rules head (Ok (Collects action caller)) = (body : List ℕ) → Plans rules (message_of head body) [] (asks_of action caller body)
Awaits rules head (Err error) = ⊤

-- a form that was fed nothing yet
abbrev pub IsFormReady : Result Intake NoMemory → Type 0
IsFormReady (Ok (Passes plan)) = ⊤
IsFormReady (Ok (Feeds fresh)) = WasFed fresh []
IsFormReady (Ok (Collects action caller)) = ⊤
IsFormReady (Err error) = ⊤

-- ---- what is had of a message

-- the content is the message's, under the rules
abbrev pub Says : Rules → Message → Content → Type 0
Says rules message (Decided plan) = Plans rules message [] (plan_text plan)
Says rules message (Submitted said) = IsSubmitted rules message.head × HoldsSubmission message (submission_text said)

-- a submission keeps within the limits of a raw crash
abbrev pub FitsContent : Content → Type 0
FitsContent (Decided plan) = ⊤
FitsContent (Submitted said) = FitsCrash (submission_text said)

-- ---- a body that is taken in

abbrev pub IsWanting : BodyError → Type 0
IsWanting error = error ≡ B.NoMemory

-- what reading the body answers
abbrev pub read_so : {A : Type 0} → List ℕ → Result A BodyError → Result (List ℕ) BodyError
read_so body (Ok found) = Ok body
read_so body (Err error) = Err error

-- a body of so many bytes was read, and this was had of it
pub record TakesBody {A : Type 0} (P : List ℕ → A → Type 0) (before after : Told) (old : List ℕ) (count : ℕ) (result : Result A BodyError) (new : List ℕ) : Type 0 where
  pub body : List ℕ
  pub from : BodyFrom before after old count (read_so body result) new
  pub says : IfOk result (P body)

-- what a form of this boundary said of the body
abbrev pub IsSaid : List ℕ → List ℕ → Result Submission FormError → Type 0
IsSaid boundary body (Ok said) = BodySays boundary body (submission_text said) × FitsCrash (submission_text said)
IsSaid boundary body (Err error) = BodyRefusal boundary body error

abbrev pub IsOfForm : List ℕ → List ℕ → Content → Type 0
IsOfForm boundary body (Decided plan) = (reason : Reason) × BodyFault boundary body reason × (plan_text plan ≡ says (malformed reason))
IsOfForm boundary body (Submitted said) = IsSaid boundary body (Ok said)

abbrev pub IsCollected : Action → Caller → List ℕ → Content → Type 0
IsCollected action caller body (Decided plan) = plan_text plan ≡ asks_of action caller body
IsCollected action caller body (Submitted said) = ⊥

-- the content is had of the body as the intake says
abbrev pub IsOfBody : Result Intake NoMemory → List ℕ → Content → Type 0
IsOfBody (Ok (Passes plan)) body content = content ≡ Decided plan
IsOfBody (Ok (Feeds fresh)) body content = IsOfForm fresh.boundary body content
IsOfBody (Ok (Collects action caller)) body content = IsCollected action caller body content
IsOfBody (Err error) body content = ⊥

-- ---- a body that comes in pieces

-- the source gave bytes, and with them the window's text begins with these bytes
pub record Begins (before after : Told) (old front new : List ℕ) : Type 0 where
  pub given : List ℕ
  pub gives : Reads before after given
  pub whole : old ++ given ≡ front ++ new

-- a form that took all of these bytes, or a refusal of each body that begins with them
abbrev pub IsFed : List ℕ → List ℕ → ReaderText → Result (Unit {0}) FormError → Type 0
IsFed boundary fed form (Ok done) = WasFed form fed
IsFed boundary fed form (Err error) = FormRefusesFor boundary fed error

-- a piece of a body, of which so many bytes were still to come, was fed to a form
pub record FeedsSome (before after : Told) (old : List ℕ) (form form' : ReaderText) (left left' : ℕ) (found : Result (Unit {0}) FormError) (new : List ℕ) : Type 0 where
  pub piece : List ℕ
  pub begins : Begins before after old piece new
  pub some : 0 < length piece
  pub counted : left' + length piece ≡ left
  pub fed : (fed : List ℕ) → WasFed form fed → IsFed form.boundary (fed ++ piece) form' found

abbrev pub FeedsPiece : Told → Told → List ℕ → ReaderText → ReaderText → ℕ → ℕ → Result (Result (Unit {0}) FormError) BodyError → List ℕ → Type 0
FeedsPiece before after old form form' left left' (Ok found) new = FeedsSome before after old form form' left left' found new
FeedsPiece before after old form form' left left' (Err error) new = BodyFrom before after old left (Err error) new

-- so many bytes of a body, of this boundary, were fed to a form, and these stand in the window
pub record IsFedSo (before after : Told) (old : List ℕ) (boundary : List ℕ) (form : ReaderText) (count : ℕ) (new : List ℕ) : Type 0 where
  pub front : List ℕ
  pub begins : Begins before after old front new
  pub counted : length front ≡ count
  pub fed : WasFed form front
  pub keeps : form.boundary ≡ boundary
