-- A session: the messages of a link, what each is answered, and how it ends. This project's profile.
use Rattle.std.specs.Prelude.{◌≡◌, ℕ, ◌+◌, ◌<◌, ◌≤◌, Bool, true, ◌||◌, List, [], ◌∷◌, ◌++◌, length, take, map, if◌then◌else◌, Option, None, Some, ⊤}
use Rattle.std.specs.List.{AllByRecursion, flat_map}
use Rattle.std.specs.Io.KnownBytes.{IsAtEnd}
use Rattle.soc_edge.specs.Ahead.{Outlook, Hands}
use Rattle.soc_edge.specs.Told.{Told, Gives, Takes}
use Rattle.soc_http.specs.declared.head.HeadError.{HeadError}
use Rattle.soc_http.specs.Message.{TakesMessage}
use Rattle.soc_http.specs.Reply.{reply_text}
use Rattle.soc_desk.specs.declared.desk.Command.{Command}
use Rattle.soc_desk.specs.declared.desk.Receipt.{Receipt}
use Rattle.soc_session.specs.declared.ending.SessionEnd.{SessionEnd}
use Rattle.soc_session.specs.declared.ending.SessionEnd.TheVariants.{Ended, Closed, Stopped, Refused, ReadFault, WriteFault, TooLong, NoMemory}
use Rattle.soc_session.specs.Desk.{Exchange, IsExchange, StepsDesk, Ways, says_stopped}
use Rattle.soc_session.specs.Messages.{IsUnfinished, RefusedAt}
use Rattle.soc_session.specs.Plan.{Drawn}
use Rattle.soc_session.specs.Replies.{closing, head_refusal}

-- what a session answers: a whole message, or the refusal of what stands where one should begin
pub data Response : Type 0 where
  met : Exchange → Response
  refused : HeadError → Response

-- ---- replies

-- how a session ends behind this response, where it does
abbrev pub closing_of : Response → Option SessionEnd
closing_of (refused error) = Some Refused
closing_of (met exchange) =
    if says_stopped exchange.asked then Some Stopped else (if exchange.message.head.last then Some Closed else None)

abbrev pub is_last : Exchange → Bool
is_last exchange = says_stopped exchange.asked || exchange.message.head.last

abbrev pub response_text : Response → List ℕ
response_text (met exchange) = reply_text (closing (is_last exchange) exchange.reply)
response_text (refused error) = reply_text (closing true (head_refusal error))

-- the replies' texts, in order
abbrev pub replies_text : List Response → List ℕ
replies_text responses = flat_map response_text responses

-- ---- what the link gave

-- The text is what these responses answer, and then the rest. A refusal is the last response, and takes nothing of the text.
abbrev pub HoldsResponses : List ℕ → List Response → List ℕ → Option (List ℕ) → Type 0
HoldsResponses text [] rest left = text ≡ rest
HoldsResponses text (met exchange ∷ responses) rest left =
    (middle : List ℕ) × TakesMessage text exchange.message middle × HoldsResponses middle responses rest left
HoldsResponses text (refused error ∷ responses) rest left = RefusedAt text left error × (responses ≡ []) × (text ≡ rest)

-- What stands behind the last response, and the window at the end. Where a message or the budget ends the session, no byte
-- behind it was taken from the window.
abbrev pub Leaves : SessionEnd → List ℕ → List ℕ → Option (List ℕ) → Type 0
Leaves Ended rest window left = (rest ≡ []) × IsAtEnd left
Leaves ReadFault rest window left = IsUnfinished rest
Leaves Closed rest window left = rest ≡ window
Leaves Stopped rest window left = rest ≡ window
Leaves TooLong rest window left = rest ≡ window
Leaves Refused rest window left = ⊤
Leaves WriteFault rest window left = ⊤
Leaves NoMemory rest window left = ⊤

-- the bytes that the link gave in the session are what its responses answer
pub record ReadsAll (end : SessionEnd) (before after : Option (List ℕ)) (window : List ℕ) (responses : List Response) : Type 0 where
  pub given : List ℕ
  pub gives : Gives before after given
  pub rest : List ℕ
  pub holds : HoldsResponses given responses rest after
  pub leaves : Leaves end rest window after

-- ---- the rules, the desk, the clock and the draws

abbrev pub IsResponse : Ways → Response → Type 0
IsResponse ways (met exchange) = IsExchange ways exchange
IsResponse ways (refused error) = ⊤

-- a run of the desk along the responses
abbrev pub RunsDesk : {K : Type 0} → (K → Command → Receipt → K → Type 0) → K → List Response → K → Type 0
RunsDesk asks before [] after = after ≡ before
RunsDesk {K} asks before (met exchange ∷ responses) after = (between : K) × StepsDesk asks before exchange.asked between × RunsDesk asks between responses after
RunsDesk asks before (refused error ∷ responses) after = RunsDesk asks before responses after

abbrev pub drawn_for : Response → List Drawn
drawn_for (met exchange) = exchange.drawn
drawn_for (refused error) = []

-- what was drawn, in order
abbrev pub HandsResponses : Outlook → Outlook → List Response → Type 0
HandsResponses before after responses =
    let drawn = flat_map drawn_for responses in
    Hands before after (map (λ d. d.moment) drawn) (map (λ d. d.throttle) drawn) (map (λ d. d.draw) drawn)

-- ---- the end

-- how many bytes a response answers
abbrev pub response_bytes : Response → ℕ
response_bytes (met exchange) = exchange.message.head.bytes + exchange.message.head.length
response_bytes (refused error) = 0

-- how many bytes these responses answer
abbrev pub answered_bytes : List Response → ℕ
answered_bytes [] = 0
answered_bytes (response ∷ responses) = response_bytes response + answered_bytes responses

-- the session goes on behind each of these responses
abbrev pub StaysOpen : List Response → Type 0
StaysOpen responses = AllByRecursion (λ response. closing_of response ≡ None) responses

-- the last of these responses is the session's last: less than the budget was answered before it
pub record EndsBehind (budget : ℕ) (responses : List Response) (P : Response → Type 0) : Type 0 where
  pub before : List Response
  pub last : Response
  pub responses_are : responses ≡ before ++ last ∷ []
  pub goes_on : StaysOpen before
  pub within : answered_bytes before < budget
  pub ends : P last

-- no response is the session's last: before each of them less than the budget was answered
pub record EndsAtEdge (budget : ℕ) (responses : List Response) (P : ℕ → Type 0) : Type 0 where
  pub goes_on : StaysOpen responses
  pub within : (before : List Response) (last : Response) → responses ≡ before ++ last ∷ [] → answered_bytes before < budget
  pub ends : P (answered_bytes responses)

-- the end is the one that the bytes and the receipts give: at each edge the budget is looked at before the input
abbrev pub IsEnd : SessionEnd → ℕ → List Response → Type 0
IsEnd Ended budget responses = EndsAtEdge budget responses (λ bytes. bytes < budget)
IsEnd ReadFault budget responses = EndsAtEdge budget responses (λ bytes. bytes < budget)
IsEnd NoMemory budget responses = EndsAtEdge budget responses (λ bytes. bytes < budget)
IsEnd TooLong budget responses = EndsAtEdge budget responses (λ bytes. budget ≤ bytes)
IsEnd Closed budget responses = EndsBehind budget responses (λ last. closing_of last ≡ Some Closed)
IsEnd Stopped budget responses = EndsBehind budget responses (λ last. closing_of last ≡ Some Stopped)
IsEnd Refused budget responses = EndsBehind budget responses (λ last. closing_of last ≡ Some Refused)
IsEnd WriteFault budget responses = EndsBehind budget responses (λ last. ⊤)

-- ---- what was written

-- all replies but the last were written, and of that a front
pub record CutsReply (before after : Option (List ℕ)) (responses : List Response) : Type 0 where
  pub whole : List Response
  pub last : Response
  pub responses_are : responses ≡ whole ++ last ∷ []
  pub count : ℕ
  pub not_all : count < length (response_text last)
  pub takes : Takes before after (replies_text whole ++ take count (response_text last))

abbrev pub WritesAll : SessionEnd → Option (List ℕ) → Option (List ℕ) → List Response → Type 0
WritesAll WriteFault before after responses = CutsReply before after responses
WritesAll Ended before after responses = Takes before after (replies_text responses)
WritesAll Closed before after responses = Takes before after (replies_text responses)
WritesAll Stopped before after responses = Takes before after (replies_text responses)
WritesAll Refused before after responses = Takes before after (replies_text responses)
WritesAll ReadFault before after responses = Takes before after (replies_text responses)
WritesAll TooLong before after responses = Takes before after (replies_text responses)
WritesAll NoMemory before after responses = Takes before after (replies_text responses)

-- ---- the whole

-- what a session works with: its link's two directions, its desk, and what clock and draws hand out
pub record Around (K : Type 0) : Type 0 where
  pub left : Option (List ℕ)
  pub held : Option (List ℕ)
  pub desk : K
  pub outlook : Outlook

abbrev pub around : {K : Type 0} → Told → K → Outlook → Around K
around told desk outlook = record { left = told.left; held = told.held; desk = desk; outlook = outlook }

-- The session's responses answer the messages that the link gave, each once and in order, by the rules and by one run of the
-- desk; their replies were written, they took their draws, and the end is theirs. The buffer's window is empty before, and
-- this after.
pub record Serves {K : Type 0} (asks : K → Command → Receipt → K → Type 0) (ways : Ways) (before after : Around K) (window : List ℕ) (end : SessionEnd) : Type 0 where
  pub responses : List Response
  pub by_rules : AllByRecursion (IsResponse ways) responses
  pub runs : RunsDesk asks before.desk responses after.desk
  pub reads : ReadsAll end before.left after.left window responses
  pub writes : WritesAll end before.held after.held responses
  pub hands : HandsResponses before.outlook after.outlook responses
  pub ends : IsEnd end ways.rules.session_bytes responses
