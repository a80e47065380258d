-- One message of a session after another.
use Rattle.std.proofs.Common.{◌≡◌, ℕ, zero, suc, ◌+◌, ◌-◌, ◌<◌, ◌≤◌, List, [], ◌∷◌, ◌++◌, length, take, map, Option, None, Some, Ok, Err, Bool, true, false, refl, sym, ap, subst, ◌∙◌, append_assoc, append-nil, length-append, inl, inr, arith}
use Rattle.std.proofs.lemmas.List.{map-append}
use Rattle.std.specs.Prelude.{if◌then◌else◌, ◌||◌}
use Rattle.std.specs.List.{flat_map}
use Rattle.soc_edge.specs.Ahead.{Outlook, HandsAll}
use Rattle.soc_edge.specs.Told.{Told, OnlyWrites, Gives, Takes, TakesFront}
use Rattle.soc_edge.proofs.Told.{Gives-append, Gives-none, Takes-append, Takes-none}
use Rattle.soc_edge.proofs.Ahead.{Hands-none, Hands-append}
use Rattle.soc_http.specs.declared.head.Head.{Head}
use Rattle.soc_http.specs.declared.head.HeadError.{HeadError}
use Rattle.soc_http.specs.declared.head.HeadError.TheVariants as H
use Rattle.soc_http.specs.declared.reply.Answered.{Answered}
use Rattle.soc_http.specs.Message.{Message, TakesHead, TakesMessage}
use Rattle.soc_http.specs.Reply.{reply_text}
use Rattle.soc_http.proofs.HeadLemmas.{ReadsHead-more}
use Rattle.soc_desk.specs.declared.desk.Command.{Command}
use Rattle.soc_desk.specs.declared.desk.Receipt.{Receipt}
use Rattle.soc_session.specs.declared.arrivals.Incoming.{Incoming}
use Rattle.soc_session.specs.declared.answers.Handled.{Handled}
use Rattle.soc_session.specs.declared.connection.Next.{Next}
use Rattle.soc_session.specs.declared.connection.Next.TheVariants.{Ends}
use Rattle.soc_session.specs.declared.ending.SessionEnd.{SessionEnd}
use Rattle.soc_session.specs.declared.ending.SessionEnd.TheVariants.{Ended, Closed, Stopped, Refused, ReadFault, WriteFault, TooLong, NoMemory}
use Rattle.soc_session.specs.declared.rules.Rules.{Rules}
use Rattle.soc_session.specs.inner.Arrivals.{Arrives, IsMessage, ReadsMessage}
use Rattle.soc_session.specs.Desk.{Exchange, IsExchange, StepsDesk, Ways, says_stopped}
use Rattle.soc_session.specs.Messages.{RefusedAt}
use Rattle.soc_session.specs.Plan.{Drawn}
use Rattle.soc_session.specs.Replies.{closing}
use Rattle.soc_session.specs.Session.{Around, around, CutsReply, EndsAtEdge, EndsBehind, HandsResponses, IsEnd, Leaves, Serves, Response, WritesAll, met, refused, answered_bytes, response_bytes, response_text, closing_of, is_last, replies_text, drawn_for}
use Rattle.soc_session.specs.inner.Steps.{Exchanges, Halts, IsNext, Refuses, Responds, ServesFrom, StepsOn, WritesNext, next_of}
use Rattle.soc_session.specs.inner.Plans.{Answers, HandsDrawn, reply_of}

-- ---- no response

no-last : (before : List Response) (last : Response) → [] ≡ before ++ last ∷ [] → ⊥
no-last [] last is = cc
no-last (first ∷ before) last is = cc

-- at an edge with no response before it
pub no-response : (budget : ℕ) (P : ℕ → Type 0) → P 0 → EndsAtEdge budget [] P
no-response budget P p = record { goes_on = tt; within = λ before last is. absurd (no-last before last is); ends = p }

-- the session ends at a message's edge
pub Serves-edge : {K : Type 0} (asks : K → Command → Receipt → K → Type 0) (ways : Ways) (window behind : List ℕ) (budget : ℕ) (desk : K) (x : Outlook) (before after : Told) (end : SessionEnd) (given : List ℕ)
    → Gives before.left after.left given → Leaves end (window ++ given) behind after.left → WritesAll end before.held after.held [] → IsEnd end budget []
    → ServesFrom asks ways window budget (around before desk x) (around after desk x) behind end
Serves-edge {K} asks ways window behind budget desk x before after end given gives leaves writes ends = record {
  responses = [];
  by_rules = tt;
  runs = refl;
  given = given;
  gives = gives;
  rest = window ++ given;
  holds = refl;
  leaves = leaves;
  writes = writes;
  hands = Hands-none x;
  ends = ends;
}

serves-ended : {K : Type 0} (asks : K → Command → Receipt → K → Type 0) (ways : Ways) (window behind : List ℕ) (desk : K) (x : Outlook) (before after : Told) (given : List ℕ)
    → Gives before.left after.left given → ReadsMessage ways.rules (window ++ given) (Ok None) behind after.left → after.held ≡ before.held → (budget : ℕ) → 0 < budget
    → ServesFrom asks ways window budget (around before desk x) (around after desk x) behind Ended
serves-ended asks ways window behind desk x before after given gives reads stays budget some =
    Serves-edge asks ways window behind budget desk x before after Ended given gives (reads.0, reads.2) (Takes-none before.held after.held stays)
    (no-response budget (λ bytes. bytes < budget) some)

pub Serves-failed : {K : Type 0} (asks : K → Command → Receipt → K → Type 0) (ways : Ways) (window behind : List ℕ) (desk : K) (x : Outlook) (before after : Told) (given : List ℕ)
    → Gives before.left after.left given → ReadsMessage ways.rules (window ++ given) (Err H.ReadFault) behind after.left → after.held ≡ before.held → (budget : ℕ) → 0 < budget
    → ServesFrom asks ways window budget (around before desk x) (around after desk x) behind ReadFault
Serves-failed asks ways window behind desk x before after given gives reads stays budget some =
    Serves-edge asks ways window behind budget desk x before after ReadFault given gives reads (Takes-none before.held after.held stays)
    (no-response budget (λ bytes. bytes < budget) some)

pub Serves-wanting : {K : Type 0} (asks : K → Command → Receipt → K → Type 0) (ways : Ways) (window behind : List ℕ) (desk : K) (x : Outlook) (before after : Told) (given : List ℕ) (error : HeadError)
    → Gives before.left after.left given → ReadsMessage ways.rules (window ++ given) (Err error) behind after.left → after.held ≡ before.held → (budget : ℕ) → 0 < budget
    → ServesFrom asks ways window budget (around before desk x) (around after desk x) behind NoMemory
Serves-wanting asks ways window behind desk x before after given error gives reads stays budget some =
    Serves-edge asks ways window behind budget desk x before after NoMemory given gives tt (Takes-none before.held after.held stays)
    (no-response budget (λ bytes. bytes < budget) some)

-- a budget that isn't used up
pub some : (budget : ℕ) → (budget ≡ 0 → ⊥) → 0 < budget
some zero h = absurd (h refl)
some (suc n) h = omega arith

-- ---- a refusal

whole : (held held' : Option (List ℕ)) (response : Response) → Takes held held' (response_text response) → Takes held held' (replies_text (response ∷ []))
whole held held' response takes = subst (Takes held held') (sym (append-nil (response_text response))) takes

cuts : (held held' : Option (List ℕ)) (response : Response) → TakesFront held held' (response_text response) → CutsReply held held' (response ∷ [])
cuts held held' response front = record {
  whole = [];
  last = response;
  responses_are = refl;
  count = front.count;
  not_all = front.not_all;
  takes = front.takes;
}

behind-one : (budget : ℕ) (response : Response) (P : Response → Type 0) → 0 < budget → P response → EndsBehind budget (response ∷ []) P
behind-one budget response P some p = record { before = []; last = response; responses_are = refl; goes_on = tt; within = some; ends = p }

refused-response : {K : Type 0} (asks : K → Command → Receipt → K → Type 0) (ways : Ways) (window behind : List ℕ) (budget : ℕ) (desk : K) (x : Outlook) (before after : Told) (end : SessionEnd) (error : HeadError) (given : List ℕ)
    → Gives before.left after.left given → RefusedAt (window ++ given) after.left error → Leaves end (window ++ given) behind after.left → WritesAll end before.held after.held (refused error ∷ []) → IsEnd end budget (refused error ∷ [])
    → ServesFrom asks ways window budget (around before desk x) (around after desk x) behind end
refused-response {K} asks ways window behind budget desk x before after end error given gives refusal leaves writes ends = record {
  responses = refused error ∷ [];
  by_rules = (tt, tt);
  runs = refl;
  given = given;
  gives = gives;
  rest = window ++ given;
  holds = (refusal, refl, refl);
  leaves = leaves;
  writes = writes;
  hands = Hands-none x;
  ends = ends;
}

refused-at : (rules : Rules) (text rest : List ℕ) (left : Option (List ℕ)) (error : HeadError) → (error ≡ H.ReadFault → ⊥) → (error ≡ H.NoMemory → ⊥) → ReadsMessage rules text (Err error) rest left → RefusedAt text left error
refused-at rules text rest left H.BadHead n m p = p
refused-at rules text rest left H.HeadTooLarge n m p = p
refused-at rules text rest left H.NoLength n m p = p
refused-at rules text rest left H.BodyTooLarge n m p = p
refused-at rules text rest left H.CutShort n m p = p
refused-at rules text rest left H.ReadFault n m p = absurd (n refl)
refused-at rules text rest left H.NoMemory n m p = absurd (m refl)

pub Serves-refused : {K : Type 0} (asks : K → Command → Receipt → K → Type 0) (ways : Ways) (window behind : List ℕ) (desk : K) (x : Outlook) (before after : Told) (given : List ℕ) (error : HeadError) (end : SessionEnd)
    → (error ≡ H.ReadFault → ⊥) → (error ≡ H.NoMemory → ⊥) → Gives before.left after.left given → ReadsMessage ways.rules (window ++ given) (Err error) behind after.left → Refuses before.held after.held error end → (budget : ℕ) → 0 < budget
    → ServesFrom asks ways window budget (around before desk x) (around after desk x) behind end
Serves-refused asks ways window behind desk x before after given error Refused n m gives reads how budget some =
    refused-response asks ways window behind budget desk x before after Refused error given gives (refused-at ways.rules _ _ after.left error n m reads) tt
    (whole before.held after.held (refused error) how) (behind-one budget (refused error) _ some refl)
Serves-refused asks ways window behind desk x before after given error WriteFault n m gives reads how budget some =
    refused-response asks ways window behind budget desk x before after WriteFault error given gives (refused-at ways.rules _ _ after.left error n m reads) tt
    (cuts before.held after.held (refused error) how) (behind-one budget (refused error) _ some tt)
Serves-refused asks ways window behind desk x before after given error NoMemory n m gives reads how budget some =
    Serves-wanting asks ways window behind desk x before after given error gives reads how budget some
Serves-refused asks ways window behind desk x before after given error Ended n m gives reads how budget some = absurd how
Serves-refused asks ways window behind desk x before after given error Closed n m gives reads how budget some = absurd how
Serves-refused asks ways window behind desk x before after given error Stopped n m gives reads how budget some = absurd how
Serves-refused asks ways window behind desk x before after given error ReadFault n m gives reads how budget some = absurd how
Serves-refused asks ways window behind desk x before after given error TooLong n m gives reads how budget some = absurd how

-- ---- a message

hands-one : (x y : Outlook) (exchange : Exchange) → HandsDrawn x y exchange.drawn → HandsResponses x y (met exchange ∷ [])
hands-one x y exchange hands = subst (HandsDrawn x y) (sym (append-nil exchange.drawn)) hands

met-response : {K : Type 0} (asks : K → Command → Receipt → K → Type 0) (ways : Ways) (window behind : List ℕ) (budget : ℕ) (desk desk' : K) (x y : Outlook) (before after : Told) (end : SessionEnd) (exchange : Exchange) (given : List ℕ)
    → IsExchange ways exchange → StepsDesk asks desk exchange.asked desk' → Gives before.left after.left given → TakesMessage (window ++ given) exchange.message behind → HandsDrawn x y exchange.drawn
    → Leaves end behind behind after.left → WritesAll end before.held after.held (met exchange ∷ []) → IsEnd end budget (met exchange ∷ [])
    → ServesFrom asks ways window budget (around before desk x) (around after desk' y) behind end
met-response {K} asks ways window behind budget desk desk' x y before after end exchange given is steps gives takes hands leaves writes ends = record {
  responses = met exchange ∷ [];
  by_rules = (is, tt);
  runs = (desk', steps, refl);
  given = given;
  gives = gives;
  rest = behind;
  holds = (behind, takes, refl);
  leaves = leaves;
  writes = writes;
  hands = hands-one x y exchange hands;
  ends = ends;
}

closing_by : (stopped last : Bool) (end : SessionEnd) → Option SessionEnd
closing_by stopped last end = if stopped then Some Stopped else (if last then Some Closed else None)

next-on : {K : Type 0} (asks : K → Command → Receipt → K → Type 0) (ways : Ways) (window behind : List ℕ) (desk desk' : K) (x y : Outlook) (before after : Told) (exchange : Exchange) (given : List ℕ) (stopped last : Bool)
    → says_stopped exchange.asked ≡ stopped → exchange.message.head.last ≡ last
    → IsExchange ways exchange → StepsDesk asks desk exchange.asked desk' → Gives before.left after.left given → TakesMessage (window ++ given) exchange.message behind → HandsDrawn x y exchange.drawn
    → Takes before.held after.held (response_text (met exchange))
    → StepsOn asks ways window (around before desk x) behind (around after desk' y) (next_of stopped last (response_bytes (met exchange)))
next-on asks ways window behind desk desk' x y before after exchange given true last s l is steps gives takes hands wrote = λ budget some.
    met-response asks ways window behind budget desk desk' x y before after Stopped exchange given is steps gives takes hands refl
    (whole before.held after.held (met exchange) wrote) (behind-one budget (met exchange) _ some (rw s refl))
next-on asks ways window behind desk desk' x y before after exchange given false true s l is steps gives takes hands wrote = λ budget some.
    met-response asks ways window behind budget desk desk' x y before after Closed exchange given is steps gives takes hands refl
    (whole before.held after.held (met exchange) wrote) (behind-one budget (met exchange) _ some (rw (s, l) refl))
next-on asks ways window behind desk desk' x y before after exchange given false false s l is steps gives takes hands wrote = record {
  exchange = exchange;
  is = is;
  steps = steps;
  given = given;
  gives = gives;
  takes = takes;
  writes = wrote;
  hands = hands;
  goes_on = rw (s, l) refl;
  bytes_are = refl;
}

written-on : {K : Type 0} (asks : K → Command → Receipt → K → Type 0) (ways : Ways) (window behind : List ℕ) (desk desk' : K) (x y : Outlook) (before after : Told) (exchange : Exchange) (given : List ℕ) (next : Next)
    → IsExchange ways exchange → StepsDesk asks desk exchange.asked desk' → Gives before.left after.left given → TakesMessage (window ++ given) exchange.message behind → HandsDrawn x y exchange.drawn
    → WritesNext before.held after.held exchange next
    → StepsOn asks ways window (around before desk x) behind (around after desk' y) next
written-on asks ways window behind desk desk' x y before after exchange given next is steps gives takes hands (inl (wrote, by)) =
    subst (StepsOn asks ways window (around before desk x) behind (around after desk' y)) (sym by)
    (next-on asks ways window behind desk desk' x y before after exchange given _ _ refl refl is steps gives takes hands wrote)
written-on asks ways window behind desk desk' x y before after exchange given next is steps gives takes hands (inr (front, by)) =
    subst (StepsOn asks ways window (around before desk x) behind (around after desk' y)) (sym by)
    (λ budget some. met-response asks ways window behind budget desk desk' x y before after WriteFault exchange given is steps gives takes hands tt
    (cuts before.held after.held (met exchange) front) (behind-one budget (met exchange) _ some tt))

-- a message that came whole was answered
pub Steps-on : {K : Type 0} (asks : K → Command → Receipt → K → Type 0) (ways : Ways) (window behind : List ℕ) (desk desk' : K) (x y : Outlook) (before middle after : Told) (incoming : Incoming) (next : Next)
    → Arrives ways.rules before middle window (Ok (Some incoming)) behind → OnlyWrites middle after → Responds asks ways incoming desk desk' x y middle.held after.held next
    → StepsOn asks ways window (around before desk x) behind (around after desk' y) next
Steps-on {K} asks ways window behind desk desk' x y before middle after incoming next p wrote_only responds =
    let message = p.reads.0 in
    let reply = responds.reply message p.reads.1 in
    let exchange = reply.0 in
    let gives : Gives before.left after.left p.given = subst (λ (l : Option (List ℕ)). Gives before.left l p.given) (sym wrote_only.left_stays) p.gives.gives in
    let takes : TakesMessage (window ++ p.given) exchange.message behind = subst (λ (m : Message). TakesMessage (window ++ p.given) m behind) (sym reply.1) p.reads.2 in
    let wrote : WritesNext before.held after.held exchange next = subst (λ (h : Option (List ℕ)). WritesNext h after.held exchange next) p.gives.only.held_stays reply.5 in
    written-on asks ways window behind desk desk' x y before after exchange p.given next reply.2 reply.3 gives takes reply.4 wrote

pub Serves-ended : {K : Type 0} (asks : K → Command → Receipt → K → Type 0) (ways : Ways) (window behind : List ℕ) (desk : K) (x : Outlook) (before after : Told)
    → Arrives ways.rules before after window (Ok None) behind → (budget : ℕ) → 0 < budget → ServesFrom asks ways window budget (around before desk x) (around after desk x) behind Ended
Serves-ended asks ways window behind desk x before after p budget some =
    serves-ended asks ways window behind desk x before after p.given p.gives.gives p.reads p.gives.only.held_stays budget some

pub Serves-halted : {K : Type 0} (asks : K → Command → Receipt → K → Type 0) (ways : Ways) (window behind : List ℕ) (desk : K) (x : Outlook) (before middle after : Told) (error : HeadError) (end : SessionEnd)
    → Arrives ways.rules before middle window (Err error) behind → OnlyWrites middle after → Halts middle.held after.held error end → (budget : ℕ) → 0 < budget
    → ServesFrom asks ways window budget (around before desk x) (around after desk x) behind end
Serves-halted asks ways window behind desk x before middle after error end p only how budget some =
    halted error end (subst (λ (l : Option (List ℕ)). Gives before.left l p.given) (sym only.left_stays) p.gives.gives) (subst (ReadsMessage ways.rules (window ++ p.given) (Err error) behind) (sym only.left_stays) p.reads)
    (subst (λ (h : Option (List ℕ)). Halts h after.held error end) p.gives.only.held_stays how)
  where
    given : List ℕ
    given = p.given

    halted : (error : HeadError) (end : SessionEnd) → Gives before.left after.left given → ReadsMessage ways.rules (window ++ given) (Err error) behind after.left → Halts before.held after.held error end
        → ServesFrom asks ways window budget (around before desk x) (around after desk x) behind end
    halted error end gives reads (inl (is, ends, stays)) =
        subst (λ (e : SessionEnd). ServesFrom asks ways window budget (around before desk x) (around after desk x) behind e) (sym ends)
        (Serves-failed asks ways window behind desk x before after given gives (subst (λ (e : HeadError). ReadsMessage ways.rules (window ++ given) (Err e) behind after.left) is reads) stays budget some)
    halted error end gives reads (inr (inl (is, ends, stays))) =
        subst (λ (e : SessionEnd). ServesFrom asks ways window budget (around before desk x) (around after desk x) behind e) (sym ends)
        (Serves-wanting asks ways window behind desk x before after given error gives reads stays budget some)
    halted error end gives reads (inr (inr (n, m, refuses))) = Serves-refused asks ways window behind desk x before after given error end n m gives reads refuses budget some

-- ---- one message, and then the rest

TakesMessage-more : (text rest more : List ℕ) (message : Message) → TakesMessage text message rest → TakesMessage (text ++ more) message (rest ++ more)
TakesMessage-more text rest more message p =
    let P : List ℕ → Type 0 = λ behind. TakesHead (text ++ more) message.head behind in
    record {
      head = subst P (append_assoc message.body rest more) (ReadsHead-more text (message.body ++ rest) more (Ok (Some message.head)) tt p.head);
      whole = p.whole;
    }

hands-cons : (x y z : Outlook) (exchange : Exchange) (responses : List Response) → HandsDrawn x y exchange.drawn → HandsResponses y z responses → HandsResponses x z (met exchange ∷ responses)
hands-cons x y z exchange responses first later =
    let more = flat_map drawn_for responses in
    let drawn = exchange.drawn in
    let moment = λ (d : Drawn). d.moment in
    let throttle = λ (d : Drawn). d.throttle in
    let draw = λ (d : Drawn). d.draw in
    let all = Hands-append x y z (map moment drawn) (map moment more) (map throttle drawn) (map throttle more) (map draw drawn) (map draw more) first later in
    record {
      by_clock = subst (HandsAll x.moments z.moments) (sym (map-append moment drawn more)) all.by_clock;
      by_throttle = subst (HandsAll x.throttles z.throttles) (sym (map-append throttle drawn more)) all.by_throttle;
      by_id = subst (HandsAll x.ids z.ids) (sym (map-append draw drawn more)) all.by_id;
    }

writes-cons : (end : SessionEnd) (a b c : Option (List ℕ)) (response : Response) (responses : List Response) → Takes a b (response_text response) → WritesAll end b c responses → WritesAll end a c (response ∷ responses)
writes-cons Ended a b c response responses first later = Takes-append a b c (response_text response) (replies_text responses) first later
writes-cons Closed a b c response responses first later = Takes-append a b c (response_text response) (replies_text responses) first later
writes-cons Stopped a b c response responses first later = Takes-append a b c (response_text response) (replies_text responses) first later
writes-cons Refused a b c response responses first later = Takes-append a b c (response_text response) (replies_text responses) first later
writes-cons ReadFault a b c response responses first later = Takes-append a b c (response_text response) (replies_text responses) first later
writes-cons TooLong a b c response responses first later = Takes-append a b c (response_text response) (replies_text responses) first later
writes-cons NoMemory a b c response responses first later = Takes-append a b c (response_text response) (replies_text responses) first later
writes-cons WriteFault a b c response responses first later = record {
  whole = response ∷ later.whole;
  last = later.last;
  responses_are = ap (λ ts. response ∷ ts) later.responses_are;
  count = later.count;
  not_all = later.not_all;
  takes =
      subst (Takes a c) (sym (append_assoc (response_text response) (replies_text later.whole) (take later.count (response_text later.last))))
      (Takes-append a b c (response_text response) (replies_text later.whole ++ take later.count (response_text later.last)) first later.takes);
}

behind-cons : (budget : ℕ) (response : Response) (responses : List Response) (P : Response → Type 0) → closing_of response ≡ None → EndsBehind (budget - response_bytes response) responses P → EndsBehind budget (response ∷ responses) P
behind-cons budget response responses P on e = record {
  before = response ∷ e.before;
  last = e.last;
  responses_are = ap (λ ts. response ∷ ts) e.responses_are;
  goes_on = (on, e.goes_on);
  within = let w : answered_bytes e.before < budget - response_bytes response = e.within in omega arith;
  ends = e.ends;
}

within-cons : (budget : ℕ) (response : Response) (responses : List Response) → 0 < budget
    → ((before : List Response) (last : Response) → responses ≡ before ++ last ∷ [] → answered_bytes before < budget - response_bytes response)
    → (before : List Response) (last : Response) → response ∷ responses ≡ before ++ last ∷ [] → answered_bytes before < budget
within-cons budget response responses some within [] last is = some
within-cons budget response responses some within (first ∷ before) last is =
    let same : first ≡ response = cc in
    let w : answered_bytes before < budget - response_bytes response = within before last cc in
    let total : response_bytes response + answered_bytes before < budget = omega arith in
    subst (λ r. response_bytes r + answered_bytes before < budget) (sym same) total

edge-cons : (budget : ℕ) (response : Response) (responses : List Response) (P Q : ℕ → Type 0) → 0 < budget → closing_of response ≡ None
    → (P (answered_bytes responses) → Q (response_bytes response + answered_bytes responses))
    → EndsAtEdge (budget - response_bytes response) responses P → EndsAtEdge budget (response ∷ responses) Q
edge-cons budget response responses P Q some on more e = record {
  goes_on = (on, e.goes_on);
  within = within-cons budget response responses some e.within;
  ends = more e.ends;
}

below : (budget bytes later : ℕ) → later < budget - bytes → bytes + later < budget
below budget bytes later h = omega arith

past : (budget bytes later : ℕ) → budget - bytes ≤ later → budget ≤ bytes + later
past budget bytes later h = omega arith

ends-cons : (end : SessionEnd) (budget : ℕ) (response : Response) (responses : List Response) → 0 < budget → closing_of response ≡ None → IsEnd end (budget - response_bytes response) responses → IsEnd end budget (response ∷ responses)
ends-cons Ended budget response responses some on e = edge-cons budget response responses _ _ some on (below budget (response_bytes response) (answered_bytes responses)) e
ends-cons ReadFault budget response responses some on e = edge-cons budget response responses _ _ some on (below budget (response_bytes response) (answered_bytes responses)) e
ends-cons NoMemory budget response responses some on e = edge-cons budget response responses _ _ some on (below budget (response_bytes response) (answered_bytes responses)) e
ends-cons TooLong budget response responses some on e = edge-cons budget response responses _ _ some on (past budget (response_bytes response) (answered_bytes responses)) e
ends-cons Closed budget response responses some on e = behind-cons budget response responses _ on e
ends-cons Stopped budget response responses some on e = behind-cons budget response responses _ on e
ends-cons Refused budget response responses some on e = behind-cons budget response responses _ on e
ends-cons WriteFault budget response responses some on e = behind-cons budget response responses _ on e

pub Serves-cons : {K : Type 0} (asks : K → Command → Receipt → K → Type 0) (ways : Ways) (window behind held : List ℕ) (budget bytes over : ℕ) (before middle after : Around K) (end : SessionEnd)
    → 0 < budget → Exchanges asks ways window before behind middle bytes → over ≡ budget - bytes → ServesFrom asks ways behind over middle after held end
    → ServesFrom asks ways window budget before after held end
Serves-cons {K} asks ways window behind held budget bytes over before middle after end some x is s =
    let response : Response = met x.exchange in
    let ends : IsEnd end (budget - response_bytes response) s.responses = subst (λ b. IsEnd end b s.responses) (is ∙ ap (λ b. budget - b) x.bytes_are) s.ends in
    record {
      responses = response ∷ s.responses;
      by_rules = (x.is, s.by_rules);
      runs = (middle.desk, x.steps, s.runs);
      given = x.given ++ s.given;
      gives = Gives-append before.left middle.left after.left x.given s.given x.gives s.gives;
      rest = s.rest;
      holds = (behind ++ s.given, subst (λ text. TakesMessage text x.exchange.message (behind ++ s.given)) (append_assoc window x.given s.given) (TakesMessage-more (window ++ x.given) behind s.given x.exchange.message x.takes), s.holds);
      leaves = s.leaves;
      writes = writes-cons end before.held middle.held after.held response s.responses x.writes s.writes;
      hands = hands-cons before.outlook middle.outlook after.outlook x.exchange s.responses x.hands s.hands;
      ends = ends-cons end budget response s.responses some x.goes_on ends;
    }

-- each message has some bytes
pub bytes-some : {K : Type 0} (asks : K → Command → Receipt → K → Type 0) (ways : Ways) (window behind : List ℕ) (before middle : Around K) (bytes : ℕ) → Exchanges asks ways window before behind middle bytes → 0 < bytes
bytes-some {K} asks ways window behind before middle bytes x =
    let head = x.takes.head in
    let size : x.exchange.message.head.bytes ≡ length head.block = ap (λ (h : Head). h.bytes) head.says.says in
    let ends = head.taken.shortest.ends in
    let parts = ap length ends.1 ∙ length-append ends.0 _ in
    omega (arith, x.bytes_are)

-- the whole session
pub Serves-of : {K : Type 0} (asks : K → Command → Receipt → K → Type 0) (ways : Ways) (before after : Around K) (window : List ℕ) (end : SessionEnd) → ServesFrom asks ways [] ways.rules.session_bytes before after window end
    → Serves asks ways before after window end
Serves-of {K} asks ways before after window end s = record {
  responses = s.responses;
  by_rules = s.by_rules;
  runs = s.runs;
  reads = record { given = s.given; gives = s.gives; rest = s.rest; holds = s.holds; leaves = s.leaves };
  writes = s.writes;
  hands = s.hands;
  ends = s.ends;
}

-- memory wanted before the first message, or the budget is used up
pub Serves-nothing : {K : Type 0} (asks : K → Command → Receipt → K → Type 0) (ways : Ways) (window held : List ℕ) (budget : ℕ) (here : Around K) (end : SessionEnd)
    → Leaves end window held here.left → WritesAll end here.held here.held [] → IsEnd end budget [] → ServesFrom asks ways window budget here here held end
Serves-nothing {K} asks ways window held budget here end leaves writes ends = record {
  responses = [];
  by_rules = tt;
  runs = refl;
  given = [];
  gives = Gives-none here.left here.left refl;
  rest = window ++ [];
  holds = refl;
  leaves = subst (λ text. Leaves end text held here.left) (sym (append-nil window)) leaves;
  writes = writes;
  hands = Hands-none here.outlook;
  ends = ends;
}

-- ---- the reply

text-is : (exchange : Exchange) (message : Message) (incoming : Incoming) (outcome : Handled) (last : Bool) → exchange.message ≡ message → message.head ≡ incoming.head → exchange.reply ≡ reply_of outcome.reply
    → says_stopped exchange.asked ≡ outcome.stopped → last ≡ (outcome.stopped || incoming.head.last) → reply_text (closing last (reply_of outcome.reply)) ≡ response_text (met exchange)
text-is exchange message incoming outcome last m h r s l =
    let head : exchange.message.head ≡ incoming.head = ap (λ (m : Message). m.head) m ∙ h in
    let lasts : last ≡ is_last exchange = l ∙ ap (λ b. b || incoming.head.last) (sym s) ∙ ap (λ (h : Head). says_stopped exchange.asked || h.last) (sym head) in
    ap (λ b. reply_text (closing b (reply_of outcome.reply))) lasts ∙ ap (λ (a : Answered). reply_text (closing (is_last exchange) a)) (sym r)

next-is : (exchange : Exchange) (message : Message) (incoming : Incoming) (outcome : Handled) (next : Next) → exchange.message ≡ message → message.head ≡ incoming.head → says_stopped exchange.asked ≡ outcome.stopped
    → IsNext outcome.stopped incoming.head.last (incoming.head.bytes + incoming.head.length) next → IsNext (says_stopped exchange.asked) exchange.message.head.last (response_bytes (met exchange)) next
next-is exchange message incoming outcome next m h s is =
    let head : incoming.head ≡ exchange.message.head = sym (ap (λ (m : Message). m.head) m ∙ h) in
    is ∙ ap (λ b. next_of b incoming.head.last (incoming.head.bytes + incoming.head.length)) (sym s)
    ∙ ap (λ (h : Head). next_of (says_stopped exchange.asked) h.last (h.bytes + h.length)) head

pub Responds-written : {K : Type 0} (asks : K → Command → Receipt → K → Type 0) (ways : Ways) (incoming : Incoming) (desk after : K) (x y : Outlook) (held held' : Option (List ℕ)) (outcome : Handled) (last : Bool) (next : Next)
    → ((message : Message) → IsMessage ways.rules incoming message → Answers asks ways message desk after x y outcome) → last ≡ (outcome.stopped || incoming.head.last)
    → Takes held held' (reply_text (closing last (reply_of outcome.reply))) → IsNext outcome.stopped incoming.head.last (incoming.head.bytes + incoming.head.length) next
    → Responds asks ways incoming desk after x y held held' next
Responds-written {K} asks ways incoming desk after x y held held' outcome last next answers l wrote is = record {
  reply = λ message came.
      let a = answers message came in (
        a.exchange,
        a.message_is,
        a.is,
        a.steps,
        a.hands,
        inl (
          subst (Takes held held') (text-is a.exchange message incoming outcome last a.message_is came.head a.reply_is a.stopped_is l) wrote,
          next-is a.exchange message incoming outcome next a.message_is came.head a.stopped_is is,
        ),
      );
}

pub Responds-cut : {K : Type 0} (asks : K → Command → Receipt → K → Type 0) (ways : Ways) (incoming : Incoming) (desk after : K) (x y : Outlook) (held held' : Option (List ℕ)) (outcome : Handled) (last : Bool)
    → ((message : Message) → IsMessage ways.rules incoming message → Answers asks ways message desk after x y outcome) → last ≡ (outcome.stopped || incoming.head.last)
    → TakesFront held held' (reply_text (closing last (reply_of outcome.reply))) → Responds asks ways incoming desk after x y held held' (Ends WriteFault)
Responds-cut {K} asks ways incoming desk after x y held held' outcome last answers l front = record {
  reply = λ message came.
      let a = answers message came in (
        a.exchange,
        a.message_is,
        a.is,
        a.steps,
        a.hands,
        inr (subst (TakesFront held held') (text-is a.exchange message incoming outcome last a.message_is came.head a.reply_is a.stopped_is l) front, refl),
      );
}
