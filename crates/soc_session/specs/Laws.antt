-- Laws of plans.
use Rattle.std.specs.Prelude.{◌≡◌, ◌⊎◌, List, [], length, Ok}
use Rattle.soc_http.specs.declared.route.Route.TheVariants.{Submit}
use Rattle.soc_http.specs.Message.{Message}
use Rattle.soc_session.specs.declared.rules.Rules.{Rules}
use Rattle.soc_session.specs.Plan.{Drawn, Plan, Plans, found_at}

-- given its draws, a message comes to one plan; whether it draws is the message's, and only submissions draw
pub record IsOnePlan : Type 0 where
  pub once : (rules : Rules) (message : Message) (drawn : List Drawn) (plan plan' : Plan) → Plans rules message drawn plan → Plans rules message drawn plan' → plan ≡ plan'
  pub draws : (rules : Rules) (message : Message) (drawn drawn' : List Drawn) (plan plan' : Plan)
      → Plans rules message drawn plan → Plans rules message drawn' plan' → length drawn ≡ length drawn'
  pub some : (rules : Rules) (message : Message)
      → (found_at rules message.head ≡ Ok Submit) ⊎ ((plan : Plan) × Plans rules message [] plan)
