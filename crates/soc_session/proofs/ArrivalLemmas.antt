-- A message from its head and what was had of its body.
use Rattle.std.proofs.Common.{◌≡◌, ℕ, ◌<◌, List, [], ◌∷◌, ◌++◌, length, None, Some, Result, Ok, Err, refl, subst, append_assoc, inl, inr, arith}
use Rattle.soc_base.specs.declared.no_memory.NoMemory.{NoMemory}
use Rattle.soc_edge.specs.Told.{Told}
use Rattle.soc_edge.proofs.Told.{Reads-append}
use Rattle.soc_http.specs.declared.body.BodyError.TheVariants as B
use Rattle.soc_http.specs.declared.head.Head.{Head}
use Rattle.soc_http.specs.declared.head.HeadError.{HeadError}
use Rattle.soc_http.specs.declared.head.HeadError.TheVariants as H
use Rattle.soc_http.specs.Message.{TakesHead, TakesMessage, RefusesMessage}
use Rattle.soc_http.specs.Reading.{ReadsHeadFrom, IsWithinHead}
use Rattle.soc_http.proofs.HeadLemmas.{ReadsHead-more}
use Rattle.soc_session.specs.declared.intake.Content.{Content}
use Rattle.soc_session.specs.declared.intake.Intake.{Intake}
use Rattle.soc_session.specs.declared.rules.Rules.{Rules}
use Rattle.soc_session.specs.Messages.{IsUnfinished}
use Rattle.soc_session.specs.inner.Arrivals.{Arrives, ReadsMessage}
use Rattle.soc_session.specs.inner.Intakes.{Awaits, IsOfBody, TakesBody}
use Rattle.soc_session.specs.inner.Plans.{message_of}
use Rattle.soc_session.proofs.IntakeLemmas.{says-of}

-- no head
pub Arrives-none : (rules : Rules) (a b : Told) (old new : List ℕ) → ReadsHeadFrom a b old (Ok None) new → Arrives rules a b old (Ok None) new
Arrives-none rules a b old new p = record { given = p.given; gives = p.gives; reads = (p.reads.0, p.reads.1, p.ended) }

unfinished-at : (text : List ℕ) → IsWithinHead text → IsUnfinished text
unfinished-at [] p = inl refl
unfinished-at (x ∷ xs) p = inr (inl (record { begun = omega arith; within = p.0; unfinished = p.1 }))

-- a head that is refused
pub Arrives-refused : (rules : Rules) (a b : Told) (old new : List ℕ) (error : HeadError) → ReadsHeadFrom a b old (Err error) new
    → Arrives rules a b old (Err error) new
Arrives-refused rules a b old new error p = record { given = p.given; gives = p.gives; reads = reads error p }
  where
    reads : (e : HeadError) → (q : ReadsHeadFrom a b old (Err e) new) → ReadsMessage rules (old ++ q.given) (Err e) new b.left
    reads H.BadHead q = q.reads.1
    reads H.HeadTooLarge q = q.reads.1
    reads H.NoLength q = q.reads.1
    reads H.BodyTooLarge q = q.reads.1
    reads H.CutShort q = (inl q.reads.1, q.ended)
    reads H.ReadFault q = unfinished-at _ (subst IsWithinHead q.reads.0 q.unfinished)
    reads H.NoMemory q = tt

-- ---- a body behind a head

-- the head still stands where more was given for the body
TakesHead-joined : (a b c : Told) (old mid given : List ℕ) (head : Head) (h : ReadsHeadFrom a b old (Ok (Some head)) mid)
    → TakesHead (old ++ (h.given ++ given)) head (mid ++ given)
TakesHead-joined a b c old mid given head h =
    let P : List ℕ → Type 0 = λ text. TakesHead text head (mid ++ given) in
    subst P (append_assoc old h.given given) (ReadsHead-more (old ++ h.given) mid given (Ok (Some head)) tt h.reads)

takes-message : (text behind body rest : List ℕ) (head : Head) → TakesHead text head behind → behind ≡ body ++ rest → length body ≡ head.length
    → TakesMessage text (record { head = head; body = body }) rest
takes-message text behind body rest head taken is whole = record {
  head = (let P : List ℕ → Type 0 = λ r. TakesHead text head r in subst P is taken);
  whole = whole;
}

-- the message is the head with the body that was taken in
pub Arrives-whole : (rules : Rules) (a b c : Told) (old mid new : List ℕ) (head : Head) (intake : Result Intake NoMemory) (content : Content) → ReadsHeadFrom a b old (Ok (Some head)) mid
    → Awaits rules head intake → TakesBody (IsOfBody intake) b c mid head.length (Ok content) new → Arrives rules a c old (Ok (Some (record { head = head; content = Some content }))) new
Arrives-whole rules a b c old mid new head intake content h awaits p = record {
  given = h.given ++ p.from.given;
  gives = Reads-append a b c h.given p.from.given h.gives p.from.gives;
  reads = (
    message_of head p.body,
    record { head = refl; content = says-of rules head p.body intake content awaits p.says },
    takes-message _ _ p.body new head (TakesHead-joined a b c old mid p.from.given head h) p.from.reads.0 p.from.reads.1,
  );
}

pub Arrives-dropped : (rules : Rules) (a b c : Told) (old mid new : List ℕ) (head : Head) (intake : Result Intake NoMemory) → ReadsHeadFrom a b old (Ok (Some head)) mid
    → TakesBody (IsOfBody intake) b c mid head.length (Err B.NoMemory) new → Arrives rules a c old (Ok (Some (record { head = head; content = None }))) new
Arrives-dropped rules a b c old mid new head intake h p = record {
  given = h.given ++ p.from.given;
  gives = Reads-append a b c h.given p.from.given h.gives p.from.gives;
  reads = (
    message_of head p.from.reads.front,
    record { head = refl; content = tt },
    takes-message _ _ p.from.reads.front new head (TakesHead-joined a b c old mid p.from.given head h) p.from.reads.whole p.from.reads.counted,
  );
}

ends-in-body : (text behind : List ℕ) (head : Head) → TakesHead text head behind → length behind < head.length → RefusesMessage text H.CutShort
ends-in-body text behind head taken short = inr (record { head = head; rest = behind; taken = taken; short = short })

pub Arrives-cut : (rules : Rules) (a b c : Told) (old mid new : List ℕ) (head : Head) (intake : Result Intake NoMemory) → ReadsHeadFrom a b old (Ok (Some head)) mid
    → TakesBody (IsOfBody intake) b c mid head.length (Err B.CutShort) new → Arrives rules a c old (Err H.CutShort) new
Arrives-cut rules a b c old mid new head intake h p = record {
  given = h.given ++ p.from.given;
  gives = Reads-append a b c h.given p.from.given h.gives p.from.gives;
  reads = (ends-in-body _ _ head (TakesHead-joined a b c old mid p.from.given head h) p.from.reads.0, p.from.ended);
}

pub Arrives-failed : (rules : Rules) (a b c : Told) (old mid new : List ℕ) (head : Head) (intake : Result Intake NoMemory) → ReadsHeadFrom a b old (Ok (Some head)) mid
    → TakesBody (IsOfBody intake) b c mid head.length (Err B.ReadFault) new → Arrives rules a c old (Err H.ReadFault) new
Arrives-failed rules a b c old mid new head intake h p = record {
  given = h.given ++ p.from.given;
  gives = Reads-append a b c h.given p.from.given h.gives p.from.gives;
  reads = inr (ends-in-body _ _ head (TakesHead-joined a b c old mid p.from.given head h) p.from.reads.0);
}
