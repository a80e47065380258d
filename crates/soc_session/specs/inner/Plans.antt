-- The plans of the code, and how they are carried out.
use Rattle.std.specs.Prelude.{◌≡◌, ℕ, List, map, Option, None, Some, Result, MatchResult, ⊤}
use Rattle.soc_base.specs.declared.no_memory.NoMemory.{NoMemory}
use Rattle.soc_edge.specs.Ahead.{Outlook, Hands}
use Rattle.soc_http.specs.declared.head.Head.{Head}
use Rattle.soc_http.specs.declared.reply.Answered.{Answered}
use Rattle.soc_http.specs.Message.{Message}
use Rattle.soc_desk.specs.declared.desk.Command.{Command}
use Rattle.soc_desk.specs.declared.desk.Receipt.{Receipt}
use Rattle.soc_desk.specs.Commands.{command_text}
use Rattle.soc_desk.specs.Kinds.{IsReplyTo}
use Rattle.soc_session.specs.declared.answers.Handled.{Handled}
use Rattle.soc_session.specs.declared.drawing.Drawing.{Drawing}
use Rattle.soc_session.specs.declared.plans.Plan.{Plan as Planned}
use Rattle.soc_session.specs.declared.plans.Plan.TheVariants.{Says, Asks}
use Rattle.soc_session.specs.Desk.{Asking, Exchange, IsExchange, StepsDesk, Ways, says_stopped, shown_to}
use Rattle.soc_session.specs.Plan.{Drawn, Plan, says, asks, MayDrawFor}
use Rattle.soc_session.specs.Replies.{BuildsText, desk_reply, no_memory}

-- the plan of the code
abbrev pub plan_text : Planned → Plan
plan_text (Says answered) = says answered
plan_text (Asks question) = asks (command_text question.command) question.form

abbrev pub message_of : Head → List ℕ → Message
message_of head body = record { head = head; body = body }

abbrev pub drawn_of : Drawing → Drawn
drawn_of drawing = record { moment = drawing.moment; throttle = drawing.throttle; draw = drawing.id }

-- these were handed out, each as a moment, a throttle draw and an id draw
abbrev pub HandsDrawn : Outlook → Outlook → List Drawn → Type 0
HandsDrawn before after drawn = Hands before after (map (λ d. d.moment) drawn) (map (λ d. d.throttle) drawn) (map (λ d. d.draw) drawn)

-- one of these plans, or want of memory, and what was drawn for it
pub record Draws (P : List Drawn → Plan → Type 0) (before after : Outlook) (result : Result Planned NoMemory) : Type 0 where
  pub drawn : List Drawn
  pub hands : HandsDrawn before after drawn
  pub plans : MatchResult result (λ plan. P drawn (plan_text plan)) (λ _. MayDrawFor P drawn)

-- ---- the desk

-- what a plan is answered: None stands for want of memory
abbrev pub AnswersWith : Ways → Plan → Option Asking → Option Answered → Type 0
AnswersWith ways (says said) None (Some reply) = reply ≡ said
AnswersWith ways (says said) None None = ⊥
AnswersWith ways (says said) (Some asking) reply = ⊥
AnswersWith ways (asks command form) None None = ⊤
AnswersWith ways (asks command form) None (Some reply) = ⊥
AnswersWith ways (asks command form) (Some asking) (Some reply) =
    (command_text asking.command ≡ command) × IsReplyTo asking.command asking.receipt.reply × (reply ≡ desk_reply form (ways.stack_of (shown_to asking.command)) asking.receipt.reply)
AnswersWith ways (asks command form) (Some asking) None =
    (command_text asking.command ≡ command) × IsReplyTo asking.command asking.receipt.reply × BuildsText asking.receipt.reply

-- a plan is carried out
pub record Carries {K : Type 0} (step : K → Command → Receipt → K → Type 0) (ways : Ways) (plan : Plan) (before after : K) (outcome : Handled) : Type 0 where
  pub asked : Option Asking
  pub steps : StepsDesk step before asked after
  pub answers : AnswersWith ways plan asked outcome.reply
  pub stopped : says_stopped asked ≡ outcome.stopped

-- the reply of an outcome
abbrev pub reply_of : Option Answered → Answered
reply_of None = no_memory
reply_of (Some reply) = reply

-- a message is answered
pub record Answers {K : Type 0} (step : K → Command → Receipt → K → Type 0) (ways : Ways) (message : Message) (before after : K) (ahead behind : Outlook) (outcome : Handled) : Type 0 where
  pub exchange : Exchange
  pub is : IsExchange ways exchange
  pub message_is : exchange.message ≡ message
  pub reply_is : exchange.reply ≡ reply_of outcome.reply
  pub stopped_is : says_stopped exchange.asked ≡ outcome.stopped
  pub steps : StepsDesk step before exchange.asked after
  pub hands : HandsDrawn ahead behind exchange.drawn
