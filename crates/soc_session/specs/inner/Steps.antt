-- One message of a session, and what a session leaves to do behind it.
use Rattle.std.specs.Prelude.{◌≡◌, ℕ, ◌<◌, List, ◌++◌, Option, None, Bool, if◌then◌else◌, ◌⊎◌}
use Rattle.std.specs.List.{AllByRecursion}
use Rattle.soc_edge.specs.Ahead.{Outlook}
use Rattle.soc_edge.specs.Told.{Gives, Takes, TakesFront}
use Rattle.soc_http.specs.declared.head.HeadError.{HeadError}
use Rattle.soc_http.specs.declared.head.HeadError.TheVariants as H
use Rattle.soc_http.specs.Message.{Message, TakesMessage}
use Rattle.soc_desk.specs.declared.desk.Command.{Command}
use Rattle.soc_desk.specs.declared.desk.Receipt.{Receipt}
use Rattle.soc_session.specs.declared.ending.SessionEnd.{SessionEnd}
use Rattle.soc_session.specs.declared.ending.SessionEnd.TheVariants.{Ended, Closed, Stopped, Refused, ReadFault, WriteFault, TooLong, NoMemory}
use Rattle.soc_session.specs.declared.arrivals.Incoming.{Incoming}
use Rattle.soc_session.specs.inner.Arrivals.{IsMessage}
use Rattle.soc_session.specs.declared.connection.Next.{Next}
use Rattle.soc_session.specs.declared.connection.Next.TheVariants.{GoesOn as Goes, Ends}
use Rattle.soc_session.specs.Desk.{Exchange, IsExchange, StepsDesk, Ways, says_stopped}
use Rattle.soc_session.specs.Session.{Around, HandsResponses, HoldsResponses, IsEnd, IsResponse, Leaves, RunsDesk, Response, WritesAll, met, refused, response_bytes, response_text, closing_of}
use Rattle.soc_session.specs.inner.Plans.{HandsDrawn}

-- what is left of a session: bytes that stand unread in the window come before those that the link gives, and these are in
-- the window at the end
pub record ServesFrom {K : Type 0} (asks : K → Command → Receipt → K → Type 0) (ways : Ways) (window : List ℕ) (budget : ℕ) (before after : Around K) (behind : List ℕ) (end : SessionEnd) : Type 0 where
  pub responses : List Response
  pub by_rules : AllByRecursion (IsResponse ways) responses
  pub runs : RunsDesk asks before.desk responses after.desk
  pub given : List ℕ
  pub gives : Gives before.left after.left given
  pub rest : List ℕ
  pub holds : HoldsResponses (window ++ given) responses rest after.left
  pub leaves : Leaves end rest behind after.left
  pub writes : WritesAll end before.held after.held responses
  pub hands : HandsResponses before.outlook after.outlook responses
  pub ends : IsEnd end budget responses

-- one message was answered, and the session goes on
pub record Exchanges {K : Type 0} (asks : K → Command → Receipt → K → Type 0) (ways : Ways) (window : List ℕ) (before : Around K) (behind : List ℕ) (after : Around K) (bytes : ℕ) : Type 0 where
  pub exchange : Exchange
  pub is : IsExchange ways exchange
  pub steps : StepsDesk asks before.desk exchange.asked after.desk
  pub given : List ℕ
  pub gives : Gives before.left after.left given
  pub takes : TakesMessage (window ++ given) exchange.message behind
  pub writes : Takes before.held after.held (response_text (met exchange))
  pub hands : HandsDrawn before.outlook after.outlook exchange.drawn
  pub goes_on : closing_of (met exchange) ≡ None
  pub bytes_are : bytes ≡ response_bytes (met exchange)

-- what came of one response of the loop, whatever is left of the budget
abbrev pub StepsOn : {K : Type 0} → (K → Command → Receipt → K → Type 0) → Ways → List ℕ → Around K → List ℕ → Around K → Next → Type 0
StepsOn asks ways window before behind after (Goes bytes) = Exchanges asks ways window before behind after bytes
StepsOn asks ways window before behind after (Ends end) = (budget : ℕ) → 0 < budget → ServesFrom asks ways window budget before after behind end

-- ---- one message

-- how a session goes on behind a reply that was written
abbrev pub next_of : Bool → Bool → ℕ → Next
next_of stopped last bytes = if stopped then Ends Stopped else (if last then Ends Closed else Goes bytes)

abbrev pub IsNext : Bool → Bool → ℕ → Next → Type 0
IsNext stopped last bytes next = next ≡ next_of stopped last bytes

-- a refusal was answered, or it wasn't for want of memory
abbrev pub Refuses : Option (List ℕ) → Option (List ℕ) → HeadError → SessionEnd → Type 0
Refuses before after error Refused = Takes before after (response_text (refused error))
Refuses before after error WriteFault = TakesFront before after (response_text (refused error))
Refuses before after error NoMemory = after ≡ before
Refuses before after error Ended = ⊥
Refuses before after error Closed = ⊥
Refuses before after error Stopped = ⊥
Refuses before after error ReadFault = ⊥
Refuses before after error TooLong = ⊥

-- no message came whole: a fault and want of memory aren't answered, and all else is
abbrev pub Halts : Option (List ℕ) → Option (List ℕ) → HeadError → SessionEnd → Type 0
Halts before after error end =
    ((error ≡ H.ReadFault) × (end ≡ ReadFault) × (after ≡ before))
    ⊎ (((error ≡ H.NoMemory) × (end ≡ NoMemory) × (after ≡ before))
    ⊎ ((¬ (error ≡ H.ReadFault)) × (¬ (error ≡ H.NoMemory)) × Refuses before after error end))

-- the reply was written whole and the session goes on or ends by it, or it was cut short by a fault
abbrev pub WritesNext : Option (List ℕ) → Option (List ℕ) → Exchange → Next → Type 0
WritesNext before after exchange next =
    (Takes before after (response_text (met exchange)) × IsNext (says_stopped exchange.asked) exchange.message.head.last (response_bytes (met exchange)) next)
    ⊎ (TakesFront before after (response_text (met exchange)) × (next ≡ Ends WriteFault))

-- a message that came is answered
pub record Responds {K : Type 0} (asks : K → Command → Receipt → K → Type 0) (ways : Ways) (incoming : Incoming) (desk after : K) (ahead behind : Outlook)
    (held held' : Option (List ℕ)) (next : Next) : Type 0 where
  pub reply : (message : Message) → IsMessage ways.rules incoming message → (exchange : Exchange) × (exchange.message ≡ message) × IsExchange ways exchange
      × StepsDesk asks desk exchange.asked after × HandsDrawn ahead behind exchange.drawn × WritesNext held held' exchange next
