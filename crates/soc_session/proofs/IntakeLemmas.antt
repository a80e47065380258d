-- What a head asks for, and what is had of the body behind it.
use Rattle.std.proofs.Common.{◌≡◌, ℕ, List, [], true, false, Option, Some, Result, Ok, Err, refl, sym, ap, subst, ◌∙◌, inl, inr}
use Rattle.std.specs.Prelude.{if◌then◌else◌, IfOk}
use Rattle.soc_base.specs.declared.no_memory.NoMemory.{NoMemory}
use Rattle.soc_forms.specs.declared.form_error.FormError.TheVariants.{Malformed}
use Rattle.soc_forms.specs.declared.reasons.Reason.{Reason}
use Rattle.soc_forms.specs.FormErrors.{LinesRefusal}
use Rattle.soc_forms.specs.FormLines.{AreFormLines}
use Rattle.soc_forms.specs.Forms.{BodySays}
use Rattle.soc_forms.specs.SubmissionViews.{submission_text}
use Rattle.soc_forms.specs.Submissions.{SubmissionOf, SubmissionText}
use Rattle.soc_http.specs.declared.head.Head.{Head}
use Rattle.soc_http.specs.declared.route.Route.{Route}
use Rattle.soc_http.specs.declared.route.Route.TheVariants as R
use Rattle.soc_http.specs.declared.route.RouteError.{RouteError}
use Rattle.soc_http.specs.declared.route.RouteError.TheVariants.{NoRoute, WrongVerb, NoMemory as Wanting}
use Rattle.soc_http.specs.Route.{IsRouteOf, route_of}
use Rattle.soc_schema.specs.declared.caller.Caller.{Caller}
use Rattle.soc_session.specs.declared.intake.Content.{Content}
use Rattle.soc_session.specs.declared.intake.Content.TheVariants.{Decided, Submitted}
use Rattle.soc_session.specs.declared.intake.Intake.{Intake}
use Rattle.soc_session.specs.declared.intake.Intake.TheVariants.{Passes, Feeds, Collects}
use Rattle.soc_session.specs.declared.plans.Plan.{Plan as Planning}
use Rattle.soc_session.specs.declared.routes.asks.Action.{Action}
use Rattle.soc_session.specs.declared.rules.Rules.{Rules}
use Rattle.soc_session.specs.Plan.{Plan, says, Plans, PlansRoute, asker_of, encoding_in, found_at, kinds_in, lacks_page}
use Rattle.soc_session.specs.Replies.{malformed}
use Rattle.soc_session.specs.inner.Intakes.{Awaits, AwaitsAt, AwaitsSubmission, IsFormReady, IsFound, IsOfBody, Says, asks_of}
use Rattle.soc_session.specs.inner.Passing.{IsPassing}
use Rattle.soc_session.specs.inner.Plans.{message_of, plan_text}
use Rattle.soc_session.proofs.PlanLemmas.{Plans-for}

-- ---- a submission's head

-- the lines are none of a form, whatever the body is
pub Awaits-malformed : (head : Head) (reason : Reason) (said : Result Planning NoMemory) (result : Result Intake NoMemory) → LinesRefusal (encoding_in head) (kinds_in head) (Malformed reason)
    → IfOk said (λ p. plan_text p ≡ says (malformed reason)) → IsPassing said result → AwaitsSubmission head result
Awaits-malformed head reason (Ok p) (Ok (Passes q)) fault is passes =
    let same : q ≡ p = cc in
    λ rules body. (reason, inl fault, ap plan_text same ∙ is)
Awaits-malformed head reason (Ok p) (Ok (Feeds fresh)) fault is passes = absurd (let never : ⊥ = cc in never)
Awaits-malformed head reason (Ok p) (Ok (Collects action asker)) fault is passes = absurd (let never : ⊥ = cc in never)
Awaits-malformed head reason (Ok p) (Err error) fault is passes = tt
Awaits-malformed head reason (Err error) (Ok intake) fault is passes = absurd passes
Awaits-malformed head reason (Err error) (Err other) fault is passes = tt

-- ---- a route

-- the path of the page, where there is none
pub found-none : (rules : Rules) (head : Head) → lacks_page rules head ≡ true → IsFound (found_at rules head) (Err NoRoute)
found-none rules head lacks = ap (λ b. if b then Err NoRoute else route_of head.verb head.path) lacks

-- any other path
pub found-else : (rules : Rules) (head : Head) (result : Result Route RouteError) → lacks_page rules head ≡ false → IsRouteOf head.verb head.path result → IsFound (found_at rules head) result
found-else rules head (Ok route) lacks is = ap (λ b. if b then Err NoRoute else route_of head.verb head.path) lacks ∙ is
found-else rules head (Err NoRoute) lacks is = ap (λ b. if b then Err NoRoute else route_of head.verb head.path) lacks ∙ is
found-else rules head (Err (WrongVerb allow)) lacks is = ap (λ b. if b then Err NoRoute else route_of head.verb head.path) lacks ∙ is
found-else rules head (Err Wanting) lacks is = tt

-- a route whose plan the head gives
pub Awaits-passing : (rules : Rules) (route at : Route) (caller : Caller) (head : Head) (said : Result Planning NoMemory) (result : Result Intake NoMemory) (plan : Plan) → route ≡ at → IfOk said (λ p. plan_text p ≡ plan)
    → ((body : List ℕ) → PlansRoute rules (message_of head body) [] plan at caller) → IsPassing said result → AwaitsAt rules route caller head result
Awaits-passing rules route at caller head (Ok p) (Ok (Passes q)) plan is said plans passes =
    let same : q ≡ p = cc in
    λ body. subst (λ r. PlansRoute rules (message_of head body) [] (plan_text q) r caller) (sym is)
    (subst (λ t. PlansRoute rules (message_of head body) [] t at caller) (sym (ap plan_text same ∙ said)) (plans body))
Awaits-passing rules route at caller head (Ok p) (Ok (Feeds fresh)) plan is said plans passes = absurd (let never : ⊥ = cc in never)
Awaits-passing rules route at caller head (Ok p) (Ok (Collects action asker)) plan is said plans passes = absurd (let never : ⊥ = cc in never)
Awaits-passing rules route at caller head (Ok p) (Err error) plan is said plans passes = tt
Awaits-passing rules route at caller head (Err error) (Ok intake) plan is said plans passes = absurd passes
Awaits-passing rules route at caller head (Err error) (Err other) plan is said plans passes = tt

pub Awaits-plan : (rules : Rules) (route at : Route) (caller : Caller) (head : Head) (p : Planning) (plan : Plan) → route ≡ at → plan_text p ≡ plan
    → ((body : List ℕ) → PlansRoute rules (message_of head body) [] plan at caller) → AwaitsAt rules route caller head (Ok (Passes p))
Awaits-plan rules route at caller head p plan is said plans = Awaits-passing rules route at caller head (Ok p) (Ok (Passes p)) plan is said plans refl

-- a submission's route
pub Awaits-submit : (rules : Rules) (route : Route) (caller : Caller) (head : Head) (result : Result Intake NoMemory) → route ≡ R.Submit → AwaitsSubmission head result → AwaitsAt rules route caller head result
Awaits-submit rules route caller head (Ok (Passes plan)) is awaits = λ body. subst (λ r. PlansRoute rules (message_of head body) [] (plan_text plan) r caller) (sym is) (awaits rules body)
Awaits-submit rules route caller head (Ok (Feeds fresh)) is awaits = (is, awaits)
Awaits-submit rules route caller head (Ok (Collects action asker)) is awaits = absurd awaits
Awaits-submit rules route caller head (Err error) is awaits = tt

-- a route whose form names a crash
pub Awaits-collects : (rules : Rules) (route at : Route) (caller : Caller) (head : Head) (action : Action) → route ≡ at
    → ((body : List ℕ) → PlansRoute rules (message_of head body) [] (asks_of action caller body) at caller) → AwaitsAt rules route caller head (Ok (Collects action caller))
Awaits-collects rules route at caller head action is plans = λ body. subst (λ r. PlansRoute rules (message_of head body) [] (asks_of action caller body) r caller) (sym is) (plans body)

-- ---- any message

-- a message without a route, or of an unknown caller
pub Awaits-refused : (rules : Rules) (head : Head) (said : Result Planning NoMemory) (result : Result Intake NoMemory) (plan : Plan) → IfOk said (λ p. plan_text p ≡ plan)
    → ((body : List ℕ) → Plans rules (message_of head body) [] plan) → IsPassing said result → Awaits rules head result
Awaits-refused rules head (Ok p) (Ok (Passes q)) plan said plans passes =
    let same : q ≡ p = cc in
    λ body. subst (Plans rules (message_of head body) []) (sym (ap plan_text same ∙ said)) (plans body)
Awaits-refused rules head (Ok p) (Ok (Feeds fresh)) plan said plans passes = absurd (let never : ⊥ = cc in never)
Awaits-refused rules head (Ok p) (Ok (Collects action asker)) plan said plans passes = absurd (let never : ⊥ = cc in never)
Awaits-refused rules head (Ok p) (Err error) plan said plans passes = tt
Awaits-refused rules head (Err error) (Ok intake) plan said plans passes = absurd passes
Awaits-refused rules head (Err error) (Err other) plan said plans passes = tt

-- a known caller's route
pub Awaits-for : (rules : Rules) (route : Route) (caller : Caller) (head : Head) (result : Result Intake NoMemory) → found_at rules head ≡ Ok route → Some caller ≡ asker_of rules head
    → AwaitsAt rules route caller head result → Awaits rules head result
Awaits-for rules route caller head (Ok (Passes plan)) at who awaits = λ body. Plans-for rules (message_of head body) [] (plan_text plan) route (Some caller) at who (awaits body)
Awaits-for rules route caller head (Ok (Feeds fresh)) at who (is, new) = (
  λ body drawn plan p. Plans-for rules (message_of head body) drawn plan route (Some caller) at who (subst (λ r. PlansRoute rules (message_of head body) drawn plan r caller) (sym is) p),
  new,
)
Awaits-for rules route caller head (Ok (Collects action asker)) at who awaits = λ body. Plans-for rules (message_of head body) [] (asks_of action asker body) route (Some caller) at who (awaits body)
Awaits-for rules route caller head (Err error) at who awaits = tt

pub form-ready : (rules : Rules) (head : Head) (intake : Result Intake NoMemory) → Awaits rules head intake → IsFormReady intake
form-ready rules head (Ok (Passes plan)) awaits = tt
form-ready rules head (Ok (Feeds fresh)) (submitted, (lines, fed)) = fed
form-ready rules head (Ok (Collects action caller)) awaits = tt
form-ready rules head (Err error) awaits = tt

-- ---- what is had of the body is the message's

submission-of : (encoding : Option (List ℕ)) (kinds : List (List ℕ × List ℕ)) (boundary body : List ℕ) (said : SubmissionText) → AreFormLines encoding kinds boundary → BodySays boundary body said
    → SubmissionOf encoding kinds body said
submission-of encoding kinds boundary body said lines (parts, cut, content) = record { boundary = boundary; parts = parts; lines = lines; cut = cut; says = content }

pub says-of : (rules : Rules) (head : Head) (body : List ℕ) (intake : Result Intake NoMemory) (content : Content) → Awaits rules head intake → IsOfBody intake body content
    → Says rules (message_of head body) content
says-of rules head body (Ok (Passes plan)) content awaits is = subst (Says rules (message_of head body)) (sym is) (awaits body)
says-of rules head body (Ok (Feeds fresh)) (Decided plan) (submitted, (lines, fed)) (reason, fault, is) = submitted body [] (plan_text plan) (reason, inr (fresh.boundary, lines, fault), is)
says-of rules head body (Ok (Feeds fresh)) (Submitted said) (submitted, (lines, fed)) (found, fits) = (submitted, submission-of _ _ fresh.boundary body (submission_text said) lines found)
says-of rules head body (Ok (Collects action caller)) (Decided plan) awaits is = subst (Plans rules (message_of head body) []) (sym is) (awaits body)
says-of rules head body (Ok (Collects action caller)) (Submitted said) awaits is = absurd is
says-of rules head body (Err error) content awaits is = absurd is
