-- That a message comes to one plan.
use Rattle.std.proofs.Common.{◌≡◌, ◌⊎◌, List, [], ◌∷◌, length, Bool, true, false, Option, None, Some, Result, Ok, Err, refl, sym, ap, ◌∙◌, inl, inr}
use Rattle.std.specs.Prelude.{if◌then◌else◌}
use Rattle.soc_schema.specs.declared.caller.Caller.{Caller}
use Rattle.soc_http.specs.declared.route.Route.{Route}
use Rattle.soc_http.specs.declared.route.Route.TheVariants as R
use Rattle.soc_http.specs.declared.route.RouteError.{RouteError}
use Rattle.soc_http.specs.declared.route.RouteError.TheVariants.{NoRoute, WrongVerb, NoMemory}
use Rattle.soc_http.specs.declared.verb.Verb.{Verb}
use Rattle.soc_http.specs.Message.{Message}
use Rattle.soc_http.specs.declared.route.Target.{Target}
use Rattle.soc_http.specs.Route.{is_verb, route_of, taken_with, target_of}
use Rattle.soc_forms.proofs.LawLemmas.{one_submission}
use Rattle.soc_session.specs.declared.rules.Rules.{Rules}
use Rattle.soc_session.specs.Laws.{IsOnePlan}
use Rattle.soc_session.specs.Plan.{Drawn, Plan, says, PlansAt, PlansFor, PlansRoute, PlansSubmission, Undrawn, asker_of, found_at, lacks_page, plan_of}
use Rattle.soc_session.specs.Replies.{malformed}

-- ---- once

undrawn_once : (drawn : List Drawn) (plan plan' expected : Plan) → Undrawn drawn plan expected → Undrawn drawn plan' expected → plan ≡ plan'
undrawn_once drawn plan plan' expected p q = p.1 ∙ sym q.1

submission_once : (rules : Rules) (message : Message) (drawn : List Drawn) (plan plan' : Plan) → PlansSubmission rules message drawn plan → PlansSubmission rules message drawn plan' → plan ≡ plan'
submission_once rules message [] plan plan' (reason, f, e) (reason', g, h) =
    e ∙ ap (λ r. says (malformed r)) (one_submission.one_reason _ _ _ reason reason' f g) ∙ sym h
submission_once rules message (d ∷ []) plan plan' (said, holds, range, e) (said', holds', range', h) =
    e ∙ ap (λ s. plan_of rules.rules d s s.sent_id) (one_submission.once _ _ _ said said' holds holds') ∙ sym h
submission_once rules message (d ∷ c ∷ more) plan plan' p q = absurd p

route_once : (rules : Rules) (message : Message) (drawn : List Drawn) (plan plan' : Plan) (route : Route) (caller : Caller) → PlansRoute rules message drawn plan route caller
    → PlansRoute rules message drawn plan' route caller → plan ≡ plan'
route_once rules message drawn plan plan' R.Submit caller p q = submission_once rules message drawn plan plan' p q
route_once rules message drawn plan plan' R.RawCrash caller p q = undrawn_once drawn plan plan' _ p q
route_once rules message drawn plan plan' R.RawDump caller p q = undrawn_once drawn plan plan' _ p q
route_once rules message drawn plan plan' R.ProcessedCrash caller p q = undrawn_once drawn plan plan' _ p q
route_once rules message drawn plan plan' R.SuperSearch caller p q = undrawn_once drawn plan plan' _ p q
route_once rules message drawn plan plan' R.SuperSearchFields caller p q = undrawn_once drawn plan plan' _ p q
route_once rules message drawn plan plan' R.Reprocessing caller p q = undrawn_once drawn plan plan' _ p q
route_once rules message drawn plan plan' R.PriorityJob caller p q = undrawn_once drawn plan plan' _ p q
route_once rules message drawn plan plan' R.Withdrawal caller p q = undrawn_once drawn plan plan' _ p q
route_once rules message drawn plan plan' R.Tops caller p q = undrawn_once drawn plan plan' _ p q
route_once rules message drawn plan plan' R.Turn caller p q = undrawn_once drawn plan plan' _ p q
route_once rules message drawn plan plan' R.Drain caller p q = undrawn_once drawn plan plan' _ p q
route_once rules message drawn plan plan' R.Stop caller p q = undrawn_once drawn plan plan' _ p q
route_once rules message drawn plan plan' R.Stack caller p q = undrawn_once drawn plan plan' _ p q
route_once rules message drawn plan plan' R.Counts caller p q = undrawn_once drawn plan plan' _ p q
route_once rules message drawn plan plan' R.Heartbeat caller p q = undrawn_once drawn plan plan' _ p q
route_once rules message drawn plan plan' R.Alive caller p q = undrawn_once drawn plan plan' _ p q
route_once rules message drawn plan plan' R.Version caller p q = undrawn_once drawn plan plan' _ p q
route_once rules message drawn plan plan' R.Front caller p q = undrawn_once drawn plan plan' _ p q
route_once rules message drawn plan plan' (R.Report text) caller p q = undrawn_once drawn plan plan' _ p q
route_once rules message drawn plan plan' R.Search caller p q = undrawn_once drawn plan plan' _ p q
route_once rules message drawn plan plan' R.TopsPage caller p q = undrawn_once drawn plan plan' _ p q

for_once : (rules : Rules) (message : Message) (drawn : List Drawn) (plan plan' : Plan) (route : Route) (asker : Option Caller) → PlansFor rules message drawn plan route asker
    → PlansFor rules message drawn plan' route asker → plan ≡ plan'
for_once rules message drawn plan plan' route None p q = undrawn_once drawn plan plan' _ p q
for_once rules message drawn plan plan' route (Some caller) p q = route_once rules message drawn plan plan' route caller p q

at_once : (rules : Rules) (message : Message) (drawn : List Drawn) (plan plan' : Plan) (found : Result Route RouteError) → PlansAt rules message drawn plan found
    → PlansAt rules message drawn plan' found → plan ≡ plan'
at_once rules message drawn plan plan' (Ok route) p q = for_once rules message drawn plan plan' route (asker_of rules message.head) p q
at_once rules message drawn plan plan' (Err NoRoute) p q = undrawn_once drawn plan plan' _ p q
at_once rules message drawn plan plan' (Err (WrongVerb allow)) p q = undrawn_once drawn plan plan' _ p q
at_once rules message drawn plan plan' (Err NoMemory) p q = absurd p

-- ---- how many draws

undrawn_both : (drawn drawn' : List Drawn) (plan plan' expected : Plan) → Undrawn drawn plan expected → Undrawn drawn' plan' expected → length drawn ≡ length drawn'
undrawn_both drawn drawn' plan plan' expected p q = ap length (p.0 ∙ sym q.0)

submission_draws : (rules : Rules) (message : Message) (drawn drawn' : List Drawn) (plan plan' : Plan) → PlansSubmission rules message drawn plan → PlansSubmission rules message drawn' plan'
    → length drawn ≡ length drawn'
submission_draws rules message [] [] plan plan' p q = refl
submission_draws rules message [] (d ∷ []) plan plan' (reason, f, e) (said, holds, range, h) = absurd (one_submission.not_refused _ _ _ said reason holds f)
submission_draws rules message [] (d ∷ c ∷ more) plan plan' p q = absurd q
submission_draws rules message (d ∷ []) [] plan plan' (said, holds, range, h) (reason, f, e) = absurd (one_submission.not_refused _ _ _ said reason holds f)
submission_draws rules message (d ∷ []) (c ∷ []) plan plan' p q = refl
submission_draws rules message (d ∷ []) (c ∷ b ∷ more) plan plan' p q = absurd q
submission_draws rules message (d ∷ c ∷ more) drawn' plan plan' p q = absurd p

route_draws : (rules : Rules) (message : Message) (drawn drawn' : List Drawn) (plan plan' : Plan) (route : Route) (caller : Caller) → PlansRoute rules message drawn plan route caller
    → PlansRoute rules message drawn' plan' route caller → length drawn ≡ length drawn'
route_draws rules message drawn drawn' plan plan' R.Submit caller p q = submission_draws rules message drawn drawn' plan plan' p q
route_draws rules message drawn drawn' plan plan' R.RawCrash caller p q = undrawn_both drawn drawn' plan plan' _ p q
route_draws rules message drawn drawn' plan plan' R.RawDump caller p q = undrawn_both drawn drawn' plan plan' _ p q
route_draws rules message drawn drawn' plan plan' R.ProcessedCrash caller p q = undrawn_both drawn drawn' plan plan' _ p q
route_draws rules message drawn drawn' plan plan' R.SuperSearch caller p q = undrawn_both drawn drawn' plan plan' _ p q
route_draws rules message drawn drawn' plan plan' R.SuperSearchFields caller p q = undrawn_both drawn drawn' plan plan' _ p q
route_draws rules message drawn drawn' plan plan' R.Reprocessing caller p q = undrawn_both drawn drawn' plan plan' _ p q
route_draws rules message drawn drawn' plan plan' R.PriorityJob caller p q = undrawn_both drawn drawn' plan plan' _ p q
route_draws rules message drawn drawn' plan plan' R.Withdrawal caller p q = undrawn_both drawn drawn' plan plan' _ p q
route_draws rules message drawn drawn' plan plan' R.Tops caller p q = undrawn_both drawn drawn' plan plan' _ p q
route_draws rules message drawn drawn' plan plan' R.Turn caller p q = undrawn_both drawn drawn' plan plan' _ p q
route_draws rules message drawn drawn' plan plan' R.Drain caller p q = undrawn_both drawn drawn' plan plan' _ p q
route_draws rules message drawn drawn' plan plan' R.Stop caller p q = undrawn_both drawn drawn' plan plan' _ p q
route_draws rules message drawn drawn' plan plan' R.Stack caller p q = undrawn_both drawn drawn' plan plan' _ p q
route_draws rules message drawn drawn' plan plan' R.Counts caller p q = undrawn_both drawn drawn' plan plan' _ p q
route_draws rules message drawn drawn' plan plan' R.Heartbeat caller p q = undrawn_both drawn drawn' plan plan' _ p q
route_draws rules message drawn drawn' plan plan' R.Alive caller p q = undrawn_both drawn drawn' plan plan' _ p q
route_draws rules message drawn drawn' plan plan' R.Version caller p q = undrawn_both drawn drawn' plan plan' _ p q
route_draws rules message drawn drawn' plan plan' R.Front caller p q = undrawn_both drawn drawn' plan plan' _ p q
route_draws rules message drawn drawn' plan plan' (R.Report text) caller p q = undrawn_both drawn drawn' plan plan' _ p q
route_draws rules message drawn drawn' plan plan' R.Search caller p q = undrawn_both drawn drawn' plan plan' _ p q
route_draws rules message drawn drawn' plan plan' R.TopsPage caller p q = undrawn_both drawn drawn' plan plan' _ p q

for_draws : (rules : Rules) (message : Message) (drawn drawn' : List Drawn) (plan plan' : Plan) (route : Route) (asker : Option Caller) → PlansFor rules message drawn plan route asker
    → PlansFor rules message drawn' plan' route asker → length drawn ≡ length drawn'
for_draws rules message drawn drawn' plan plan' route None p q = undrawn_both drawn drawn' plan plan' _ p q
for_draws rules message drawn drawn' plan plan' route (Some caller) p q = route_draws rules message drawn drawn' plan plan' route caller p q

at_draws : (rules : Rules) (message : Message) (drawn drawn' : List Drawn) (plan plan' : Plan) (found : Result Route RouteError) → PlansAt rules message drawn plan found
    → PlansAt rules message drawn' plan' found → length drawn ≡ length drawn'
at_draws rules message drawn drawn' plan plan' (Ok route) p q = for_draws rules message drawn drawn' plan plan' route (asker_of rules message.head) p q
at_draws rules message drawn drawn' plan plan' (Err NoRoute) p q = undrawn_both drawn drawn' plan plan' _ p q
at_draws rules message drawn drawn' plan plan' (Err (WrongVerb allow)) p q = undrawn_both drawn drawn' plan plan' _ p q
at_draws rules message drawn drawn' plan plan' (Err NoMemory) p q = absurd p

-- ---- some plan

-- a submission, or a plan that draws nothing
abbrev SomeAt : Rules → Message → Result Route RouteError → Type 0
SomeAt rules message found = (found ≡ Ok R.Submit) ⊎ ((plan : Plan) × PlansAt rules message [] plan found)

some_for : (rules : Rules) (message : Message) (route : Route) (asker : Option Caller) → (route ≡ R.Submit) ⊎ ((plan : Plan) × PlansFor rules message [] plan route asker)
some_for rules message route None = inr (_, (refl, refl))
some_for rules message R.Submit (Some caller) = inl refl
some_for rules message R.RawCrash (Some caller) = inr (_, (refl, refl))
some_for rules message R.RawDump (Some caller) = inr (_, (refl, refl))
some_for rules message R.ProcessedCrash (Some caller) = inr (_, (refl, refl))
some_for rules message R.SuperSearch (Some caller) = inr (_, (refl, refl))
some_for rules message R.SuperSearchFields (Some caller) = inr (_, (refl, refl))
some_for rules message R.Reprocessing (Some caller) = inr (_, (refl, refl))
some_for rules message R.PriorityJob (Some caller) = inr (_, (refl, refl))
some_for rules message R.Withdrawal (Some caller) = inr (_, (refl, refl))
some_for rules message R.Tops (Some caller) = inr (_, (refl, refl))
some_for rules message R.Turn (Some caller) = inr (_, (refl, refl))
some_for rules message R.Drain (Some caller) = inr (_, (refl, refl))
some_for rules message R.Stop (Some caller) = inr (_, (refl, refl))
some_for rules message R.Stack (Some caller) = inr (_, (refl, refl))
some_for rules message R.Counts (Some caller) = inr (_, (refl, refl))
some_for rules message R.Heartbeat (Some caller) = inr (_, (refl, refl))
some_for rules message R.Alive (Some caller) = inr (_, (refl, refl))
some_for rules message R.Version (Some caller) = inr (_, (refl, refl))
some_for rules message R.Front (Some caller) = inr (_, (refl, refl))
some_for rules message (R.Report text) (Some caller) = inr (_, (refl, refl))
some_for rules message R.Search (Some caller) = inr (_, (refl, refl))
some_for rules message R.TopsPage (Some caller) = inr (_, (refl, refl))

some_ok : (rules : Rules) (message : Message) (route : Route) → (route ≡ R.Submit) ⊎ ((plan : Plan) × PlansFor rules message [] plan route (asker_of rules message.head)) → SomeAt rules message (Ok route)
some_ok rules message route (inl is) = inl (ap Ok is)
some_ok rules message route (inr p) = inr p

some_taken : (rules : Rules) (message : Message) (target : Target) (taken : Bool) → SomeAt rules message (if taken then Ok target.route else Err (WrongVerb target.verb))
some_taken rules message target true = some_ok rules message target.route (some_for rules message target.route (asker_of rules message.head))
some_taken rules message target false = inr (_, (refl, refl))

some_at : (rules : Rules) (message : Message) (verb : Verb) (target : Option Target) → SomeAt rules message (taken_with verb target)
some_at rules message verb None = inr (_, (refl, refl))
some_at rules message verb (Some target) = some_taken rules message target (is_verb verb target.verb)

some_found : (rules : Rules) (message : Message) (lacks : Bool) → SomeAt rules message (if lacks then Err NoRoute else route_of message.head.verb message.head.path)
some_found rules message true = inr (_, (refl, refl))
some_found rules message false = some_at rules message message.head.verb (target_of message.head.path)

pub one_plan : IsOnePlan
one_plan = record {
  once = λ rules message drawn plan plan' p q. at_once rules message drawn plan plan' (found_at rules message.head) p q;
  draws = λ rules message drawn drawn' plan plan' p q. at_draws rules message drawn drawn' plan plan' (found_at rules message.head) p q;
  some = λ rules message. some_found rules message (lacks_page rules message.head);
}
