-- What one message is answered.
use Rattle.std.proofs.Common.{◌≡◌, ◌∷◌, List, [], Option, None, Some, Result, Ok, Err, true, false, refl, sym, ap, ◌∙◌, subst, inl, inr, true≢false}
use Rattle.std.specs.Prelude.{IfOk, OnErr}
use Rattle.std.specs.Result.{result_ok}
use Rattle.soc_base.specs.declared.no_memory.NoMemory.{NoMemory}
use Rattle.soc_schema.specs.declared.permission.Permissions.{Permissions}
use Rattle.soc_edge.specs.Ahead.{Outlook}
use Rattle.soc_http.specs.declared.reply.Answered.{Answered}
use Rattle.soc_http.specs.Message.{Message}
use Rattle.soc_desk.specs.declared.desk.Command.{Command}
use Rattle.soc_desk.specs.declared.desk.Command.TheVariants as C
use Rattle.soc_desk.specs.declared.desk.Receipt.{Receipt}
use Rattle.soc_desk.specs.Kinds.{IsReplyTo, NeedsNothing}
use Rattle.soc_session.specs.declared.answers.Handled.{Handled}
use Rattle.soc_session.specs.declared.plans.Plan.{Plan as Planned}
use Rattle.soc_session.specs.declared.plans.Plan.TheVariants.{Asks}
use Rattle.soc_session.specs.declared.question.Question.{Question}
use Rattle.soc_session.specs.declared.rules.Rules.{Rules}
use Rattle.soc_session.specs.Desk.{Asking, IsExchange, Ways, shown_to}
use Rattle.soc_session.specs.Plan.{Drawn, Plan, says, asks, MayDraw, Plans}
use Rattle.soc_session.specs.Replies.{BuildsText, desk_reply, no_memory}
use Rattle.soc_session.specs.inner.Askable.{is_askable}
use Rattle.soc_session.specs.inner.Plans.{Answers, AnswersWith, Carries, Draws, HandsDrawn, plan_text, reply_of}

-- what may be asked at any time
pub needs-nothing : (command : Command) → is_askable command ≡ true → NeedsNothing command
needs-nothing (C.Submit raw) is = tt
needs-nothing (C.Priority caller id) is = tt
needs-nothing (C.Reprocess caller id) is = tt
needs-nothing (C.Withdraw caller id) is = tt
needs-nothing (C.Raw caller id) is = tt
needs-nothing (C.Processed caller id) is = tt
needs-nothing (C.Dump caller id name) is = tt
needs-nothing (C.Search query) is = tt
needs-nothing (C.Tops query) is = tt
needs-nothing (C.Stack caller id) is = tt
needs-nothing (C.Counts caller) is = tt
needs-nothing (C.Turn caller) is = tt
needs-nothing (C.Drain caller) is = tt
needs-nothing (C.Stop caller) is = tt
needs-nothing (C.Fetch id) is = tt
needs-nothing (C.Finish processed) is = absurd (true≢false (sym is))

-- memory wanted before the desk was asked
pub Answers-wanting : {K : Type 0} (step : K → Command → Receipt → K → Type 0) (ways : Ways) (message : Message) (desk : K) (x y : Outlook) (drawn : List Drawn) (outcome : Handled)
    → MayDraw ways.rules message drawn → HandsDrawn x y drawn → outcome ≡ record { reply = None; stopped = false }
    → Answers step ways message desk desk x y outcome
Answers-wanting {K} step ways message desk x y drawn outcome may hands is = record {
  exchange = record { message = message; drawn = drawn; asked = None; reply = no_memory };
  is = inr (record { draws = may; unasked = refl; reply = refl });
  message_is = refl;
  reply_is = ap (λ (o : Handled). reply_of o.reply) (sym is);
  stopped_is = ap (λ (o : Handled). o.stopped) (sym is);
  steps = refl;
  hands = hands;
}

may_draw : (rules : Rules) (message : Message) (drawn : List Drawn) (plan : Plan) → Plans rules message drawn plan → MayDraw rules message drawn
may_draw rules message [] plan plans = tt
may_draw rules message (d ∷ more) plan plans = (plan, plans)

exchange_is : (ways : Ways) (message : Message) (drawn : List Drawn) (plan : Plan) (asked : Option Asking) (reply : Option Answered)
    → Plans ways.rules message drawn plan → AnswersWith ways plan asked reply
    → IsExchange ways (record { message = message; drawn = drawn; asked = asked; reply = reply_of reply })
exchange_is ways message drawn (says said) None (Some reply) plans answers = inl (record { plan = says said; plans = plans; answers = answers })
exchange_is ways message drawn (says said) None None plans answers = absurd answers
exchange_is ways message drawn (says said) (Some asking) reply plans answers = absurd answers
exchange_is ways message drawn (asks command form) None None plans answers =
    inr (record { draws = may_draw ways.rules message drawn (asks command form) plans; unasked = refl; reply = refl })
exchange_is ways message drawn (asks command form) None (Some reply) plans answers = absurd answers
exchange_is ways message drawn (asks command form) (Some asking) (Some reply) plans answers =
    inl (record { plan = asks command form; plans = plans; answers = (answers.0, answers.1, inl answers.2) })
exchange_is ways message drawn (asks command form) (Some asking) None plans answers =
    inl (record { plan = asks command form; plans = plans; answers = (answers.0, answers.1, inr (answers.2, refl)) })

-- a plan that was carried out answers its message
pub Answers-done : {K : Type 0} (step : K → Command → Receipt → K → Type 0) (ways : Ways) (message : Message) (plan : Planned) (desk after : K) (x y : Outlook) (outcome : Handled)
    → Draws (Plans ways.rules message) x y (Ok plan) → Carries step ways (plan_text plan) desk after outcome → Answers step ways message desk after x y outcome
Answers-done {K} step ways message plan desk after x y outcome draws carries = record {
  exchange = record { message = message; drawn = draws.drawn; asked = carries.asked; reply = reply_of outcome.reply };
  is = exchange_is ways message draws.drawn (plan_text plan) carries.asked outcome.reply draws.plans carries.answers;
  message_is = refl;
  reply_is = refl;
  stopped_is = carries.stopped;
  steps = carries.steps;
  hands = draws.hands;
}

-- the desk was asked, and its reply made
pub Carries-asked : {K : Type 0} (step : K → Command → Receipt → K → Type 0) (ways : Ways) (question : Question) (shown : Permissions) (receipt : Receipt) (desk after : K) (result : Result Answered NoMemory) (reply : Option Answered)
    → step desk question.command receipt after → IsReplyTo question.command receipt.reply → shown ≡ shown_to question.command
    → IfOk result (λ answered. answered ≡ desk_reply question.form (ways.stack_of shown) receipt.reply) → OnErr result (BuildsText receipt.reply)
    → reply ≡ result_ok result → Carries step ways (plan_text (Asks question)) desk after (record { reply = reply; stopped = receipt.stopped })
Carries-asked {K} step ways question shown receipt desk after (Ok answered) reply steps kind by is err ok = record {
  asked = Some (record { command = question.command; receipt = receipt });
  steps = steps;
  answers = subst (AnswersWith ways (plan_text (Asks question)) (Some (record { command = question.command; receipt = receipt }))) (sym ok)
      (refl, kind, is ∙ ap (λ p. desk_reply question.form (ways.stack_of p) receipt.reply) by);
  stopped = refl;
}
Carries-asked {K} step ways question shown receipt desk after (Err error) reply steps kind by is err ok = record {
  asked = Some (record { command = question.command; receipt = receipt });
  steps = steps;
  answers = subst (AnswersWith ways (plan_text (Asks question)) (Some (record { command = question.command; receipt = receipt }))) (sym ok) (refl, kind, err);
  stopped = refl;
}
