-- The desk along a session: what is asked for each message, and what comes of it.
use Rattle.std.specs.Prelude.{◌≡◌, ◌⊎◌, ℕ, Bool, false, List, Option, None, Some}
use Rattle.std.specs.Option.{option_map_or}
use Rattle.soc_raw.specs.Record.{Crash}
use Rattle.soc_schema.specs.declared.permission.Permissions.{Permissions}
use Rattle.soc_schema.specs.Permits.{public_alone}
use Rattle.soc_http.specs.declared.reply.Answered.{Answered}
use Rattle.soc_http.specs.Message.{Message}
use Rattle.soc_desk.specs.declared.desk.Command.{Command}
use Rattle.soc_desk.specs.declared.desk.Command.TheVariants as C
use Rattle.soc_desk.specs.declared.desk.Receipt.{Receipt}
use Rattle.soc_desk.specs.Commands.{CommandText, command_text}
use Rattle.soc_desk.specs.Kinds.{IsReplyTo}
use Rattle.soc_session.specs.declared.forms.ReplyForm.{ReplyForm}
use Rattle.soc_session.specs.declared.rules.Rules.{Rules}
use Rattle.soc_session.specs.Plan.{Drawn, Plan, says, asks, Plans, MayDraw}
use Rattle.soc_session.specs.Replies.{BuildsText, desk_reply, no_memory}

-- what a session answers by beside its desk
pub record Ways : Type 0 where
  pub rules : Rules
  -- the stack of a crash, where it has one, with what is shown under these permissions
  pub stack_of : Permissions → Crash → Option (List ℕ)

abbrev pub ways : Rules → (Permissions → Crash → Option (List ℕ)) → Ways
ways rules stack_of = record { rules = rules; stack_of = stack_of }

-- under which permissions a command's stack is shown
abbrev pub shown_to : Command → Permissions
shown_to (C.Stack caller id) = caller.permissions
shown_to _ = public_alone

-- what the desk was asked, and what it gave
pub record Asking : Type 0 where
  pub command : Command
  pub receipt : Receipt

-- a message, what was drawn for it, what the desk was asked for it, and what it was answered
pub record Exchange : Type 0 where
  pub message : Message
  pub drawn : List Drawn
  pub asked : Option Asking
  pub reply : Answered

-- the desk's reply is answered as it is; a text that is built of it alone, which no change stands behind, memory may want for
abbrev pub AnswersAsking : Ways → CommandText → ReplyForm → Asking → Answered → Type 0
AnswersAsking ways command form asking reply =
    (command_text asking.command ≡ command)
    × IsReplyTo asking.command asking.receipt.reply
    × ((reply ≡ desk_reply form (ways.stack_of (shown_to asking.command)) asking.receipt.reply) ⊎ (BuildsText asking.receipt.reply × (reply ≡ no_memory)))

-- the desk is asked once for what needs it, and not for what doesn't
abbrev pub AnswersPlan : Ways → Plan → Option Asking → Answered → Type 0
AnswersPlan ways (says said) None reply = reply ≡ said
AnswersPlan ways (says said) (Some asking) reply = ⊥
AnswersPlan ways (asks command form) None reply = ⊥
AnswersPlan ways (asks command form) (Some asking) reply = AnswersAsking ways command form asking reply

-- memory wanted before the desk was asked
pub record WantsMemory (ways : Ways) (exchange : Exchange) : Type 0 where
  pub draws : MayDraw ways.rules exchange.message exchange.drawn
  pub unasked : exchange.asked ≡ None
  pub reply : exchange.reply ≡ no_memory

-- what a message comes to
pub record MeetsPlan (ways : Ways) (exchange : Exchange) : Type 0 where
  pub plan : Plan
  pub plans : Plans ways.rules exchange.message exchange.drawn plan
  pub answers : AnswersPlan ways plan exchange.asked exchange.reply

-- a message is answered by the rules and the desk
abbrev pub IsExchange : Ways → Exchange → Type 0
IsExchange ways exchange = MeetsPlan ways exchange ⊎ WantsMemory ways exchange

-- the desk has stopped
abbrev pub says_stopped : Option Asking → Bool
says_stopped asked = option_map_or (λ asking. asking.receipt.stopped) asked false

-- the desk before and after what it was asked
abbrev pub StepsDesk : {K : Type 0} → (K → Command → Receipt → K → Type 0) → K → Option Asking → K → Type 0
StepsDesk step before None after = after ≡ before
StepsDesk step before (Some asking) after = step before asking.command asking.receipt after
