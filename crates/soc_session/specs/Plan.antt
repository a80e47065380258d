-- What a message comes to under the rules: a reply that needs no desk, or what the desk is asked. This project's profile.
use Rattle.std.specs.Prelude.{◌≡◌, ℕ, ◌<◌, ◌^◌, Bool, true, ◌&&◌, if◌then◌else◌, List, [], ◌∷◌, length, bytes_eq, is_none, Option, None, Some, Result, Ok, Err, codes, ⊤}
use Rattle.soc_raw.specs.CrashId.{id_text}
use Rattle.soc_raw.specs.Day.{IsMoment, day_of}
use Rattle.soc_raw.specs.Record.{Crash}
use Rattle.soc_raw.specs.declared.digit.Digit.{Digit}
use Rattle.soc_raw.specs.declared.digit.Digit.TheVariants.{Accepted, Deferred}
use Rattle.soc_throttle.specs.declared.rule.Outcome.{Outcome}
use Rattle.soc_throttle.specs.declared.rule.Outcome.TheVariants.{Accept, Defer, Reject}
use Rattle.soc_throttle.specs.declared.rule.Rule.{Rule}
use Rattle.soc_throttle.specs.Verdicts.{verdict_of}
use Rattle.soc_schema.specs.declared.caller.Caller.{Caller}
use Rattle.soc_schema.specs.declared.caller.Products.TheVariants.{All}
use Rattle.soc_schema.specs.Permits.{public_alone}
use Rattle.soc_forms.specs.declared.reasons.Reason.{Reason}
use Rattle.soc_forms.specs.Submissions.{SubmissionText, SubmissionOf, SubmissionFault}
use Rattle.soc_query.specs.declared.error.QueryError.{QueryError}
use Rattle.soc_query.specs.Queries.{Asked, query_of}
use Rattle.soc_tops.specs.declared.error.TopsError.{TopsError}
use Rattle.soc_tops.specs.declared.query.TopsQuery.{TopsQuery}
use Rattle.soc_tops.specs.Asked.{query_of as tops_query_of}
use Rattle.soc_http.specs.declared.head.Head.{Head}
use Rattle.soc_http.specs.declared.reply.Answered.{Answered}
use Rattle.soc_http.specs.declared.reply.Kind.TheVariants.{Json}
use Rattle.soc_http.specs.declared.route.Route.{Route}
use Rattle.soc_http.specs.declared.route.Route.TheVariants as R
use Rattle.soc_http.specs.declared.route.RouteError.{RouteError}
use Rattle.soc_http.specs.declared.route.RouteError.TheVariants.{NoRoute, WrongVerb, NoMemory}
use Rattle.soc_http.specs.Message.{Message}
use Rattle.soc_http.specs.Lines.{encoding_of, lines_named}
use Rattle.soc_http.specs.Query.{query_pairs}
use Rattle.soc_http.specs.Request.{values_of}
use Rattle.soc_http.specs.Route.{route_of}
use Rattle.soc_desk.specs.Commands.{CommandText, to_submit, to_prioritise, to_reprocess, to_withdraw, to_show_raw, to_show_report, to_show_dump, to_show_stack, to_search, to_show_tops, to_turn, to_drain, to_stop, to_count}
use Rattle.soc_session.specs.declared.forms.ReplyForm.{ReplyForm}
use Rattle.soc_session.specs.declared.forms.ReplyForm.TheVariants as form
use Rattle.soc_session.specs.declared.rules.Rules.{Rules}
use Rattle.soc_session.specs.Json.{fields_json}
use Rattle.soc_session.specs.Lines.{caller_by_keys}
use Rattle.soc_session.specs.Parameters.{crash_named, dump_named, id_in}
use Rattle.soc_session.specs.Replies.{alive, front_reply, good, malformed, no_route, not_found, query_refusal, rejected, tops_refusal, unknown_token, version_reply, wrong_method}

-- what a well-formed submission takes: a moment, then a throttle draw, then an id draw
pub record Drawn : Type 0 where
  pub moment : ℕ
  pub throttle : ℕ
  pub draw : List ℕ

-- how many bytes an id draw has
abbrev pub draw_length : ℕ
draw_length = 16

-- a moment of the clock's range, and draws of their size
pub record IsDrawn (drawn : Drawn) : Type 0 where
  pub moment : IsMoment drawn.moment
  pub throttle : drawn.throttle < 2 ^ 64
  pub draw : length drawn.draw ≡ draw_length

-- what a message comes to
pub data Plan : Type 0 where
  -- a reply without the desk
  says : Answered → Plan
  -- what the desk is asked, and how its reply is written
  asks : CommandText → ReplyForm → Plan

-- ---- submissions

abbrev pub crash_with : List ℕ → List ℕ → Drawn → SubmissionText → Crash
crash_with id rule drawn said = record {
  id = id;
  moment = drawn.moment;
  draw = drawn.throttle;
  rule = rule;
  annotations = said.annotations;
  dumps = said.dumps;
}

abbrev pub keeps : Crash → Plan
keeps crash = asks (to_submit crash) form.Submission

-- a crash under the id of a draw
abbrev pub kept_by : List ℕ → Digit → Drawn → SubmissionText → Plan
kept_by rule digit drawn said = keeps (crash_with (id_text drawn.draw digit (day_of drawn.moment)) rule drawn said)

-- a rule's verdict on a submission without an id
abbrev pub plan_by : List ℕ × Outcome → Drawn → SubmissionText → Plan
plan_by (rule, Accept) drawn said = kept_by rule Accepted drawn said
plan_by (rule, Defer) drawn said = kept_by rule Deferred drawn said
plan_by (rule, Reject) drawn said = says (rejected rule)

-- a sent id is used, else the rules decide
abbrev pub plan_of : List Rule → Drawn → SubmissionText → Option (List ℕ) → Plan
plan_of rules drawn said (Some id) = keeps (crash_with id (codes "from_crash_id") drawn said)
plan_of rules drawn said None = plan_by (verdict_of rules said.annotations drawn.throttle) drawn said

-- what the message's lines say of its body
abbrev pub encoding_in : Head → Option (List ℕ)
encoding_in head = encoding_of (values_of (codes "content-encoding") head.lines)

abbrev pub kinds_in : Head → List (List ℕ × List ℕ)
kinds_in head = lines_named (codes "content-type") head.lines

-- the message says this
abbrev pub HoldsSubmission : Message → SubmissionText → Type 0
HoldsSubmission message said = SubmissionOf (encoding_in message.head) (kinds_in message.head) message.body said

-- the first reason why it says nothing
abbrev pub IsMalformed : Message → Reason → Type 0
IsMalformed message reason = SubmissionFault (encoding_in message.head) (kinds_in message.head) message.body reason

abbrev pub PlansSubmission : Rules → Message → List Drawn → Plan → Type 0
PlansSubmission rules message [] plan = (reason : Reason) × IsMalformed message reason × (plan ≡ says (malformed reason))
PlansSubmission rules message (drawn ∷ []) plan =
    (said : SubmissionText) × HoldsSubmission message said × IsDrawn drawn × (plan ≡ plan_of rules.rules drawn said said.sent_id)
PlansSubmission rules message (_ ∷ _ ∷ _) plan = ⊥

-- ---- the other routes, which draw nothing

-- what is asked of the crash that a parameter names; without an id there is nothing to ask
abbrev pub about : Option (List ℕ) → (List ℕ → CommandText) → ReplyForm → Plan
about None command written = says not_found
about (Some id) command written = asks (command id) written

-- the pairs of the target's query, and those of the body
abbrev pub query_in : Message → List (List ℕ × List ℕ)
query_in message = query_pairs message.head.query

abbrev pub form_in : Message → List (List ℕ × List ℕ)
form_in message = query_pairs message.body

abbrev pub crash_asked : Message → Option (List ℕ)
crash_asked message = crash_named (codes "crash_id") (query_in message)

abbrev pub crash_posted : Message → Option (List ℕ)
crash_posted message = crash_named (codes "crash_ids") (form_in message)

-- a report's page
abbrev pub page_of : Caller → Option (List ℕ) → Plan
page_of caller None = says not_found
page_of caller (Some id) = asks (to_show_report caller id) (form.Report id)

abbrev pub search_by : Result Asked QueryError → ReplyForm → Plan
search_by (Ok query) written = asks (to_search query) written
search_by (Err error) written = says (query_refusal error)

abbrev pub tops_by : Result TopsQuery TopsError → ReplyForm → Plan
tops_by (Ok query) written = asks (to_show_tops query) written
tops_by (Err error) written = says (tops_refusal error)

-- who counts for a heartbeat, whoever asks for it: of the counts only whether the log is in doubt is shown
abbrev pub monitor : Caller
monitor = record { permissions = record public_alone { operate = true }; products = All }

-- nothing was drawn, and this is the plan
abbrev pub Undrawn : List Drawn → Plan → Plan → Type 0
Undrawn drawn plan expected = (drawn ≡ []) × (plan ≡ expected)

-- ---- any message

abbrev pub PlansRoute : Rules → Message → List Drawn → Plan → Route → Caller → Type 0
PlansRoute rules message drawn plan R.Submit caller = PlansSubmission rules message drawn plan
PlansRoute rules message drawn plan R.RawCrash caller = Undrawn drawn plan (about (crash_asked message) (to_show_raw caller) form.Data)
PlansRoute rules message drawn plan R.RawDump caller =
    Undrawn drawn plan (about (crash_asked message) (λ id. to_show_dump caller id (dump_named (query_in message))) form.Data)
PlansRoute rules message drawn plan R.Stack caller = Undrawn drawn plan (about (crash_asked message) (to_show_stack caller) form.Data)
PlansRoute rules message drawn plan R.ProcessedCrash caller = Undrawn drawn plan (about (crash_asked message) (to_show_report caller) form.Data)
PlansRoute rules message drawn plan R.SuperSearch caller = Undrawn drawn plan (search_by (query_of caller (query_in message)) form.Data)
PlansRoute rules message drawn plan R.SuperSearchFields caller = Undrawn drawn plan (says (good Json (fields_json caller)))
PlansRoute rules message drawn plan R.Reprocessing caller = Undrawn drawn plan (about (crash_posted message) (to_reprocess caller) form.Data)
PlansRoute rules message drawn plan R.PriorityJob caller = Undrawn drawn plan (about (crash_posted message) (to_prioritise caller) form.Data)
PlansRoute rules message drawn plan R.Withdrawal caller = Undrawn drawn plan (about (crash_posted message) (to_withdraw caller) form.Data)
PlansRoute rules message drawn plan R.Tops caller = Undrawn drawn plan (tops_by (tops_query_of caller (query_in message)) form.Data)
PlansRoute rules message drawn plan R.Turn caller = Undrawn drawn plan (asks (to_turn caller) form.Data)
PlansRoute rules message drawn plan R.Drain caller = Undrawn drawn plan (asks (to_drain caller) form.Data)
PlansRoute rules message drawn plan R.Stop caller = Undrawn drawn plan (asks (to_stop caller) form.Data)
PlansRoute rules message drawn plan R.Counts caller = Undrawn drawn plan (asks (to_count caller) form.Data)
PlansRoute rules message drawn plan R.Heartbeat caller = Undrawn drawn plan (asks (to_count monitor) form.Heartbeat)
PlansRoute rules message drawn plan R.Alive caller = Undrawn drawn plan (says alive)
PlansRoute rules message drawn plan R.Version caller = Undrawn drawn plan (says (version_reply rules.version))
PlansRoute rules message drawn plan R.Front caller = Undrawn drawn plan (says (front_reply rules.page))
PlansRoute rules message drawn plan (R.Report text) caller = Undrawn drawn plan (page_of caller (id_in text))
PlansRoute rules message drawn plan R.Search caller = Undrawn drawn plan (search_by (query_of caller (query_in message)) form.Page)
PlansRoute rules message drawn plan R.TopsPage caller = Undrawn drawn plan (tops_by (tops_query_of caller (query_in message)) form.Page)

-- who asks, by the message's token
abbrev pub asker_of : Rules → Head → Option Caller
asker_of rules head = caller_by_keys rules.tokens rules.public (values_of (codes "auth-token") head.lines)

abbrev pub PlansFor : Rules → Message → List Drawn → Plan → Route → Option Caller → Type 0
PlansFor rules message drawn plan route None = Undrawn drawn plan (says unknown_token)
PlansFor rules message drawn plan route (Some caller) = PlansRoute rules message drawn plan route caller

abbrev pub PlansAt : Rules → Message → List Drawn → Plan → Result Route RouteError → Type 0
PlansAt rules message drawn plan (Ok route) = PlansFor rules message drawn plan route (asker_of rules message.head)
PlansAt rules message drawn plan (Err NoRoute) = Undrawn drawn plan (says no_route)
PlansAt rules message drawn plan (Err (WrongVerb allow)) = Undrawn drawn plan (says (wrong_method allow))
PlansAt rules message drawn plan (Err NoMemory) = ⊥

-- the path of the service's own page, where it has none
abbrev pub lacks_page : Rules → Head → Bool
lacks_page rules head = bytes_eq head.path (codes "/") && is_none rules.page

-- the route of a head; the path of the page has one exactly where there is a page
abbrev pub found_at : Rules → Head → Result Route RouteError
found_at rules head = if lacks_page rules head then Err NoRoute else route_of head.verb head.path

-- what a message comes to, and what was drawn for it
abbrev pub Plans : Rules → Message → List Drawn → Plan → Type 0
Plans rules message drawn plan = PlansAt rules message drawn plan (found_at rules message.head)

-- what may have been drawn where memory wanted: nothing yet, or what some plan takes
abbrev pub MayDrawFor : (List Drawn → Plan → Type 0) → List Drawn → Type 0
MayDrawFor P [] = ⊤
MayDrawFor P (drawn ∷ more) = (plan : Plan) × P (drawn ∷ more) plan

abbrev pub MayDraw : Rules → Message → List Drawn → Type 0
MayDraw rules message drawn = MayDrawFor (Plans rules message) drawn
