-- What messages come to.
use Rattle.std.proofs.Common.{◌≡◌, ℕ, List, [], ◌∷◌, Option, None, Some, Result, Ok, Err, refl, sym, ap, subst, ◌∙◌}
use Rattle.std.specs.Prelude.{IfOk}
use Rattle.soc_base.specs.declared.no_memory.NoMemory.{NoMemory}
use Rattle.soc_edge.specs.Ahead.{Outlook}
use Rattle.soc_edge.proofs.Ahead.{Hands-none}
use Rattle.soc_forms.specs.Submissions.{SubmissionText}
use Rattle.soc_schema.specs.declared.caller.Caller.{Caller}
use Rattle.soc_query.specs.declared.error.QueryError.{QueryError}
use Rattle.soc_query.specs.declared.error.QueryError.TheVariants as Q
use Rattle.soc_query.specs.Queries.{Asked, IsRefusal}
use Rattle.soc_tops.specs.declared.error.TopsError.{TopsError}
use Rattle.soc_tops.specs.declared.error.TopsError.TheVariants as T
use Rattle.soc_tops.specs.declared.query.TopsQuery.{TopsQuery}
use Rattle.soc_tops.specs.Asked.{IsRefusal as IsTopsRefusal}
use Rattle.soc_http.specs.declared.route.Route.{Route}
use Rattle.soc_http.specs.declared.route.RouteError.{RouteError}
use Rattle.soc_http.specs.Message.{Message}
use Rattle.soc_desk.specs.Commands.{CommandText}
use Rattle.soc_session.specs.declared.forms.ReplyForm.{ReplyForm}
use Rattle.soc_session.specs.declared.plans.Plan.{Plan as Planned}
use Rattle.soc_session.specs.declared.rules.Rules.{Rules}
use Rattle.soc_session.specs.Plan.{Drawn, IsDrawn, Plan, says, asks, about, search_by, tops_by, MayDrawFor, Plans, PlansAt, PlansFor, PlansSubmission, HoldsSubmission, asker_of, found_at, plan_of}
use Rattle.soc_session.specs.Replies.{not_found, query_refusal, tops_refusal}
use Rattle.soc_session.specs.inner.Intakes.{IsSubmitted}
use Rattle.soc_session.specs.inner.Plans.{Draws, HandsDrawn, plan_text}

-- nothing was drawn
pub Draws-none : (P : List Drawn → Plan → Type 0) (x : Outlook) (result : Result Planned NoMemory) (plan : Plan) → P [] plan → IfOk result (λ p. plan_text p ≡ plan)
    → Draws P x x result
Draws-none P x (Ok p) plan holds is = record { drawn = []; hands = Hands-none x; plans = subst (P []) (sym is) holds }
Draws-none P x (Err error) plan holds is = record { drawn = []; hands = Hands-none x; plans = tt }

-- a plan of others
pub Draws-map : (P Q : List Drawn → Plan → Type 0) (x y : Outlook) (result : Result Planned NoMemory) → ((drawn : List Drawn) (plan : Plan) → P drawn plan → Q drawn plan)
    → Draws P x y result → Draws Q x y result
Draws-map P Q x y (Ok p) f d = record { drawn = d.drawn; hands = d.hands; plans = f d.drawn (plan_text p) d.plans }
Draws-map P Q x y (Err error) f d = record { drawn = d.drawn; hands = d.hands; plans = may d.drawn d.plans }
  where
    may : (drawn : List Drawn) → MayDrawFor P drawn → MayDrawFor Q drawn
    may [] m = tt
    may (first ∷ more) m = (m.0, f (first ∷ more) m.0 m.1)

-- ---- submissions

pub Draws-one : (rules : Rules) (message : Message) (said : SubmissionText) (drawn : Drawn) (x y : Outlook) (result : Result Planned NoMemory) → HoldsSubmission message said
    → IsDrawn drawn → HandsDrawn x y (drawn ∷ []) → IfOk result (λ p. plan_text p ≡ plan_of rules.rules drawn said said.sent_id) → Draws (PlansSubmission rules message) x y result
Draws-one rules message said drawn x y (Ok p) submits range hands is = record { drawn = drawn ∷ []; hands = hands; plans = (said, submits, range, is) }
Draws-one rules message said drawn x y (Err error) submits range hands is =
    record { drawn = drawn ∷ []; hands = hands; plans = (plan_of rules.rules drawn said said.sent_id, (said, submits, range, refl)) }

-- a submission's plans are the message's
pub Draws-submitted : (rules : Rules) (message : Message) (x y : Outlook) (result : Result Planned NoMemory) → IsSubmitted rules message.head
    → Draws (PlansSubmission rules message) x y result → Draws (Plans rules message) x y result
Draws-submitted rules message x y result submitted draws =
    Draws-map (PlansSubmission rules message) (Plans rules message) x y result (λ drawn plan p. submitted message.body drawn plan p) draws

-- ---- routes

-- a route's plans are the message's
pub Plans-at : (rules : Rules) (message : Message) (drawn : List Drawn) (plan : Plan) (found : Result Route RouteError)
    → found_at rules message.head ≡ found → PlansAt rules message drawn plan found → Plans rules message drawn plan
Plans-at rules message drawn plan found is plans = subst (PlansAt rules message drawn plan) (sym is) plans

pub Plans-for : (rules : Rules) (message : Message) (drawn : List Drawn) (plan : Plan) (route : Route) (asker : Option Caller)
    → found_at rules message.head ≡ Ok route → asker ≡ asker_of rules message.head → PlansFor rules message drawn plan route asker
    → Plans rules message drawn plan
Plans-for rules message drawn plan route asker is who plans =
    Plans-at rules message drawn plan (Ok route) is (subst (PlansFor rules message drawn plan route) who plans)

-- ---- what is asked of one crash

pub about-missing : (found : Option (List ℕ)) (command : List ℕ → CommandText) (form : ReplyForm) (result : Result Planned NoMemory) → None ≡ found
    → IfOk result (λ p. plan_text p ≡ says not_found) → IfOk result (λ p. plan_text p ≡ about found command form)
about-missing found command form (Ok p) is said = said ∙ ap (λ f. about f command form) is
about-missing found command form (Err error) is said = tt

pub about-found : (found : Option (List ℕ)) (id : List ℕ) (command : List ℕ → CommandText) (form : ReplyForm) (plan : Plan) → Some id ≡ found
    → plan ≡ asks (command id) form → plan ≡ about found command form
about-found found id command form plan is asked = asked ∙ ap (λ f. about f command form) is

-- ---- searches

pub search-refused : (asked : Result Asked QueryError) (form : ReplyForm) (error : QueryError) (plan : Plan) → IsRefusal asked error → (error ≡ Q.NoMemory → ⊥)
    → plan ≡ says (query_refusal error) → plan ≡ search_by asked form
search-refused asked form (Q.UnknownField name) plan is other said = said ∙ ap (λ a. search_by a form) (sym is)
search-refused asked form (Q.NotGranted name permission) plan is other said = said ∙ ap (λ a. search_by a form) (sym is)
search-refused asked form (Q.BadValue name) plan is other said = said ∙ ap (λ a. search_by a form) (sym is)
search-refused asked form (Q.BadNumber name) plan is other said = said ∙ ap (λ a. search_by a form) (sym is)
search-refused asked form Q.TooManyConditions plan is other said = said ∙ ap (λ a. search_by a form) (sym is)
search-refused asked form Q.NoMemory plan is other said = absurd (other refl)

pub tops-refused : (asked : Result TopsQuery TopsError) (form : ReplyForm) (error : TopsError) (plan : Plan) → IsTopsRefusal asked error → (error ≡ T.NoMemory → ⊥)
    → plan ≡ says (tops_refusal error) → plan ≡ tops_by asked form
tops-refused asked form (T.BadParameter name) plan is other said = said ∙ ap (λ a. tops_by a form) (sym is)
tops-refused asked form T.NoMemory plan is other said = absurd (other refl)
