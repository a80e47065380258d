-- What a processor's turns tell of its crashes.
use Rattle.std.proofs.Common.{◌≡◌, inl, inr, ℕ, Bool, true, false, List, [], ◌∷◌, ◌++◌, Option, None, Some, MatchOption, refl, sym, ◌∙◌, ap, subst, append_assoc}
use Rattle.std.specs.Prelude.{if◌then◌else◌}
use Rattle.std.specs.Coded.{Coded-set, coded_bool, coded_list, coded_option, coded_ℕ}
use mathlib.Core.List.{append-nil}
use Rattle.soc_base.proofs.Folk.{some-injective, none_is_not_some}
use Rattle.soc_raw.specs.Record.{Crash, IsCrash, record_of}
use Rattle.soc_raw.specs.RawCrash.{crash_of}
use Rattle.soc_raw.specs.declared.raw_crash.RawCrash.{RawCrash}
use Rattle.soc_schema.specs.Reports.{Report}
use Rattle.soc_hall.specs.Asked.{sees}
use Rattle.soc_hall.specs.Seats.{seen_of}
use Rattle.soc_pool.specs.declared.jobs.Job.{Job}
use Rattle.soc_pool.specs.declared.jobs.Job.TheVariants as J
use Rattle.soc_pool.specs.declared.pass.Pass.{Pass}
use Rattle.soc_pool.specs.Passes.{MayPut, seen_of as pass_seen}
use Rattle.soc_pool.specs.Ring.{Takes}
use Rattle.soc_ledger.specs.declared.event.Event.TheVariants as E
use Rattle.soc_ledger.specs.Due.{is_due}
use Rattle.soc_desk.specs.declared.desk.Command.{Command}
use Rattle.soc_desk.specs.declared.desk.Command.TheVariants as C
use Rattle.soc_desk.specs.declared.desk.Refusal.TheVariants as F
use Rattle.soc_desk.specs.declared.desk.Reply.{Reply}
use Rattle.soc_desk.specs.declared.desk.Reply.TheVariants as R
use Rattle.soc_desk.specs.Basis.{Basis}
use Rattle.soc_desk.specs.Grows.{Grows}
use Rattle.soc_desk.specs.Kinds.{IsReplyTo}
use Rattle.soc_service.specs.declared.change.Change.{Change}
use Rattle.soc_service.specs.Changes.{events_in, text_in}
use Rattle.soc_service.specs.Answers.{FetchesText, TellsAnswers, TellsIdle}
use Rattle.soc_service.specs.inner.Stays.{text_stays}
use Rattle.soc_service.proofs.Codes.{one_events, one_log}
use Rattle.soc_service.specs.declared.process.Outcome.{Outcome}
use Rattle.soc_service.specs.declared.processor.WorkerStop.{WorkerStop}
use Rattle.soc_service.specs.declared.processor.WorkerStop.TheVariants as S
use Rattle.soc_service.specs.Turns.{Knows, MayTurn, Shared}
use Rattle.soc_service.specs.Works.{EndsBy, Fetches, Finishes, GaveNone, GoesOn, LeavesOff, PutsCrashes, StopsBehind, WasIdle, Work, WorksOn, Worked, WorksOnAll, crash_jobs, ids_of, ids_with, is_made, is_missed, is_stale, last_job}
use Rattle.soc_service.specs.inner.Outcomes.{fetched_as, finished_as}
use Rattle.soc_service.proofs.Answered.{log_after, told}
use Rattle.soc_service.proofs.Options.{map_nil}

-- ---- what replies tell

unread_idle : (log : List Change) (id : List ℕ) (reply : Reply) → GaveNone reply → TellsIdle (events_in log) (C.Fetch id) reply → is_due (events_in log) id ≡ false
unread_idle log id (R.Fetched None) none tells = tells
unread_idle log id (R.Refused F.NoCrash) none tells = tells
unread_idle log id _ never tells = absurd never

of_raw : (log : List Change) (id : List ℕ) (raw : RawCrash) (reply : Reply) → reply ≡ R.Fetched (Some raw) → FetchesText log (C.Fetch id) reply → text_in log id ≡ Some (record_of (crash_of raw))
of_raw log id raw reply is tells = subst (λ r. FetchesText log (C.Fetch id) r) is tells

id_of_raw : (id : List ℕ) (raw : RawCrash) (reply : Reply) → reply ≡ R.Fetched (Some raw) → IsReplyTo (C.Fetch id) reply → raw.id ≡ id
id_of_raw id raw reply is kind = (subst (λ r. IsReplyTo (C.Fetch id) r) is kind).1

module _ {T A B : Type 0} (desk : Shared T A B) (command_of : A → Command) (desk_of : B → Basis) (tells : TellsAnswers command_of desk_of desk.answers) where
  module _ (id : List ℕ) {v w : Knows A B} where
    -- a fetch adds nothing
    pub fetch_adds_none : {reply : Reply} (fetch : Fetches desk command_of v id reply w) → fetch.turn.asked.piece ≡ []
    fetch_adds_none fetch = told desk command_of desk_of tells fetch.turn (λ piece. piece ≡ []) (one_log _ []) (λ basis is a. map_nil (λ change. change.event) a.piece a.grows.1.0)

    fetch_idle : {reply : Reply} (fetch : Fetches desk command_of v id reply w) → GaveNone reply → WasIdle desk command_of id fetch.turn
    fetch_idle {reply} fetch none = (
      fetch_adds_none fetch,
      told desk command_of desk_of tells fetch.turn (λ piece. is_due (events_in (seen_of (sees fetch.turn.asked.between v))) id ≡ false) (Coded-set coded_bool _ _)
          (λ basis is a. unread_idle (seen_of (sees fetch.turn.asked.between v)) id reply none (subst (λ r. TellsIdle (events_in (seen_of (sees fetch.turn.asked.between v))) (C.Fetch id) r) fetch.replied a.idle)),
    )

    -- what became of a crash that a fetch didn't give
    pub unread : (reply : Reply) (fetch : Fetches desk command_of v id reply w) (outcome : Outcome) → fetched_as reply ≡ Some outcome → GoesOn desk command_of id outcome reply w fetch w
    unread (R.Fetched (Some raw)) fetch outcome is = absurd (none_is_not_some is)
    unread (R.Fetched None) fetch outcome is = subst (λ o. GoesOn desk command_of id o (R.Fetched None) w fetch w) (some-injective is) (refl, (tt, fetch_idle fetch tt))
    unread (R.Refused F.NoCrash) fetch outcome is = subst (λ o. GoesOn desk command_of id o (R.Refused F.NoCrash) w fetch w) (some-injective is) (refl, (tt, fetch_idle fetch tt))
    unread (R.Refused F.StoreFault) fetch outcome is = subst (λ o. GoesOn desk command_of id o (R.Refused F.StoreFault) w fetch w) (some-injective is) (refl, tt)
    unread (R.Refused (F.Altered other)) fetch outcome is = subst (λ o. GoesOn desk command_of id o (R.Refused (F.Altered other)) w fetch w) (some-injective is) (refl, tt)
    unread (R.Refused _) fetch outcome is = absurd (none_is_not_some is)
    unread _ fetch outcome is = absurd (none_is_not_some is)

  module _ (crash : Crash) {v w : Knows A B} where
    finish_grows : (changed : Bool) (finish : Finishes desk command_of v crash (R.Finished changed) w) (P : List Change → Type 0) → IsProp (P finish.turn.asked.piece)
        → ((basis : B) (piece : List Change) (doubt left : _) → Grows (desk_of basis) (events_in (seen_of (sees finish.turn.asked.between v))) doubt (C.Finish finish.processed) (R.Finished changed) (events_in piece) left → P piece) → P finish.turn.asked.piece
    finish_grows changed finish P prop each =
        let log = events_in (seen_of (sees finish.turn.asked.between v)) in
        told desk command_of desk_of tells finish.turn P prop
        (λ basis is a. each basis a.piece a.doubt a.left (subst (λ r. Grows (desk_of basis) log a.doubt (C.Finish finish.processed) r (events_in a.piece) a.left) finish.replied a.grows))

    made_done : (finish : Finishes desk command_of v crash (R.Finished true) w) → events_in finish.turn.asked.piece ≡ E.Done crash.id ∷ []
    made_done finish =
        finish_grows true finish (λ piece. events_in piece ≡ E.Done crash.id ∷ []) (one_events _ _)
        (λ basis piece doubt left grows. grows.0.1 ∙ ap (λ c. E.Done c.id ∷ []) finish.same)

    stale_idle : (finish : Finishes desk command_of v crash (R.Finished false) w) → WasIdle desk command_of crash.id finish.turn
    stale_idle finish =
        let log = seen_of (sees finish.turn.asked.between v) in (
          finish_grows false finish (λ piece. piece ≡ []) (one_log _ []) (λ basis piece doubt left grows. map_nil (λ change. change.event) piece grows.0.1),
          told desk command_of desk_of tells finish.turn (λ piece. is_due (events_in log) crash.id ≡ false) (Coded-set coded_bool _ _)
              (λ basis is a. subst (λ c. is_due (events_in log) c.id ≡ false) finish.same (subst (λ r. TellsIdle (events_in log) (C.Finish finish.processed) r) finish.replied a.idle refl)),
        )

    -- what became of a crash that was finished
    pub finished : (reply : Reply) (finish : Finishes desk command_of v crash reply w) (outcome : Outcome) → finished_as reply ≡ Some outcome → EndsBy desk command_of crash outcome finish
    finished (R.Finished true) finish outcome is = subst (λ o. EndsBy desk command_of crash o finish) (some-injective is) (made_done finish)
    finished (R.Finished false) finish outcome is = subst (λ o. EndsBy desk command_of crash o finish) (some-injective is) (stale_idle finish)
    finished _ finish outcome is = absurd (none_is_not_some is)

  -- ---- one crash

  abbrev Ends : Knows A B → List ℕ → Option Outcome → Knows A B → Type 0
  Ends v id outcome w = MatchOption outcome (LeavesOff desk command_of v id w) (λ o. WorksOn desk command_of v id o w)

  by_outcome : {P : Type 0} {Q : Outcome → Type 0} (outcome : Option Outcome) → P → ((o : Outcome) → outcome ≡ Some o → Q o) → MatchOption outcome P Q
  by_outcome None left ends = left
  by_outcome (Some o) left ends = ends o refl

  -- a crash that the fetch didn't give
  pub ends_unread : (v w : Knows A B) (id : List ℕ) (reply : Reply) (outcome : Option Outcome) → outcome ≡ fetched_as reply → Fetches desk command_of v id reply w → Ends v id outcome w
  ends_unread v w id reply outcome is fetch =
      by_outcome outcome (record { between = w; reply = reply; fetch = fetch; stops = inl refl })
      (λ o there. record { between = w; reply = reply; fetch = fetch; goes_on = unread id reply fetch o (sym is ∙ there) })

  -- a crash that was fetched, and of which memory was wanting for the row
  pub ends_unmade : (v w : Knows A B) (id : List ℕ) (reply : Reply) → Fetches desk command_of v id reply w → Ends v id None w
  ends_unmade v w id reply fetch = record { between = w; reply = reply; fetch = fetch; stops = inl refl }

  -- a crash that was fetched and finished
  pub ends_finished : (v u w : Knows A B) (id : List ℕ) (raw : RawCrash) (fetched : Reply) (reply : Reply) (crash : Crash) (outcome : Option Outcome) → fetched ≡ R.Fetched (Some raw) → crash ≡ crash_of raw → outcome ≡ finished_as reply
      → Fetches desk command_of v id fetched u → Finishes desk command_of u crash reply w → Ends v id outcome w
  ends_finished v u w id raw fetched reply crash outcome is same ended fetch finish =
      let fetch' : Fetches desk command_of v id (R.Fetched (Some raw)) u = subst (λ r. Fetches desk command_of v id r u) is fetch in
      let finish' : Finishes desk command_of u (crash_of raw) reply w = subst (λ c. Finishes desk command_of u c reply w) same finish in
      by_outcome outcome (record { between = u; reply = R.Fetched (Some raw); fetch = fetch'; stops = inr (raw, refl, reply, finish') })
      (λ o there. record { between = u; reply = R.Fetched (Some raw); fetch = fetch'; goes_on = (reply, finish', finished (crash_of raw) reply finish' o (sym ended ∙ there)) })

  pub behind_fetch : (id : List ℕ) (outcome : Outcome) {v : Knows A B} (reply : Reply) (u : Knows A B) (fetch : Fetches desk command_of v id reply u) (w : Knows A B) → GoesOn desk command_of id outcome reply u fetch w
      → StopsBehind desk command_of reply u w
  behind_fetch id outcome (R.Fetched (Some raw)) u fetch w goes = inr (raw, refl, goes.0, goes.1)
  behind_fetch id outcome (R.Fetched None) u fetch w goes = inl goes.0
  behind_fetch id outcome _ u fetch w goes = inl goes.0

  -- a crash whose end couldn't be noted
  pub ends_unnoted : (v w : Knows A B) (id : List ℕ) (outcome : Outcome) → WorksOn desk command_of v id outcome w → LeavesOff desk command_of v id w
  ends_unnoted v w id outcome works = record { between = works.between; reply = works.reply; fetch = works.fetch; stops = behind_fetch id outcome works.reply works.between works.fetch w works.goes_on }

  -- ---- what may be finished

  -- the seat that was given a raw crash may finish it
  pub may_finish : (v u : Knows A B) (id : List ℕ) (raw : RawCrash) (reply : Reply) (processed : Report)
      → reply ≡ R.Fetched (Some raw) → Fetches desk command_of v id reply u → IsCrash (crash_of raw) → processed.crash ≡ crash_of raw
      → ((basis : B) → u.basis ≡ Some basis → processed.row ≡ (desk_of basis).row_of processed.crash)
      → MayTurn desk_of u (C.Finish processed)
  may_finish v u id raw reply processed is fetch whole same row basis known = (
    row basis known,
    λ told_now.
        let log = seen_of (sees fetch.turn.asked.between v) in
        let reply_is : fetch.receipt.reply ≡ R.Fetched (Some raw) = fetch.replied ∙ is in
        let as_before = λ (b : B) (there : v.basis ≡ Some b). some-injective (sym there ∙ (sym (ap (λ k. k.basis) fetch.turn.asked.knows) ∙ known)) in
        let text : text_in log id ≡ Some (record_of (crash_of raw)) =
        told desk command_of desk_of tells fetch.turn (λ piece. text_in log id ≡ Some (record_of (crash_of raw))) (Coded-set (coded_option (coded_list coded_ℕ)) _ _)
        (λ b there a. of_raw log id raw fetch.receipt.reply reply_is (a.fetched (ap (λ k. (desk_of k).is_told) (as_before b there) ∙ told_now))) in
        let own : raw.id ≡ id =
        told desk command_of desk_of tells fetch.turn (λ piece. raw.id ≡ id) (Coded-set (coded_list coded_ℕ) _ _)
        (λ b there a. id_of_raw id raw fetch.receipt.reply reply_is a.kind) in
        let here : text_in (seen_of u) id ≡ Some (record_of (crash_of raw)) =
        ap (λ l. text_in l id) (log_after desk command_of desk_of tells fetch.turn) ∙ text_stays log fetch.turn.asked.piece id (record_of (crash_of raw)) text in (
          subst IsCrash (sym same) whole,
          subst (λ (c : Crash). text_in (seen_of u) c.id ≡ Some (record_of c)) (sym same) (ap (λ i. text_in (seen_of u) i) own ∙ here),
        ),
  )

-- ---- all crashes

module _ {T A B : Type 0} (desk : Shared T A B) (command_of : A → Command) where
  -- one crash more
  pub more_works : (v u w : Knows A B) (works : List Work) (id : List ℕ) (outcome : Outcome) → WorksOnAll desk command_of v works u → WorksOn desk command_of u id outcome w
      → WorksOnAll desk command_of v (works ++ record { id = id; outcome = outcome } ∷ []) w
  more_works v u w [] id outcome all last = (w, subst (λ k. WorksOn desk command_of k id outcome w) all last, refl)
  more_works v u w (work ∷ works) id outcome all last = (all.0, all.1, more_works all.0 u w works id outcome all.2 last)

pub more_ids : (works : List Work) (work : Work) → ids_of (works ++ work ∷ []) ≡ ids_of works ++ work.id ∷ []
more_ids [] work = refl
more_ids (first ∷ works) work = ap (λ l. first.id ∷ l) (more_ids works work)

with_first : (b : Bool) (id : List ℕ) (ids more : List (List ℕ)) → (if b then id ∷ (ids ++ more) else ids ++ more) ≡ (if b then id ∷ ids else ids) ++ more
with_first true id ids more = refl
with_first false id ids more = refl

-- one crash more, where it passes the test
pub more_with : (test : Outcome → Bool) (works : List Work) (work : Work) → ids_with test (works ++ work ∷ []) ≡ ids_with test works ++ (if test work.outcome then work.id ∷ [] else [])
more_with test [] work = refl
more_with test (first ∷ works) work =
    ap (λ l. if test first.outcome then first.id ∷ l else l) (more_with test works work)
    ∙ with_first (test first.outcome) first.id (ids_with test works) (if test work.outcome then work.id ∷ [] else [])

-- the list of such crashes after one more
pub noted : (b : Bool) (ids ids' : List (List ℕ)) (id : List ℕ) → ids' ≡ (if b then ids ++ id ∷ [] else ids) → ids' ≡ ids ++ (if b then id ∷ [] else [])
noted true ids ids' id is = is
noted false ids ids' id is = is ∙ sym (append-nil ids)

-- ---- the lists of a processor

module _ {T A B : Type 0} (desk : Shared T A B) (command_of : A → Command) where
  -- what a processor has done so far: each crash that it took is in one of the other lists
  pub record HasWorked (v : Knows A B) (taken made stale missed : List (List ℕ)) (w : Knows A B) : Type 0 where
    pub works : List Work
    pub each : WorksOnAll desk command_of v works w
    pub taken_are : taken ≡ ids_of works
    pub made_are : made ≡ ids_with is_made works
    pub stale_are : stale ≡ ids_with is_stale works
    pub missed_are : missed ≡ ids_with is_missed works

  pub has_worked_none : (v : Knows A B) (taken made stale missed : List (List ℕ)) → taken ≡ [] → made ≡ [] → stale ≡ [] → missed ≡ [] → HasWorked v taken made stale missed v
  has_worked_none v taken made stale missed no_taken no_made no_stale no_missed =
      record { works = []; each = refl; taken_are = no_taken; made_are = no_made; stale_are = no_stale; missed_are = no_missed }

  pub has_worked_more : (v u w : Knows A B) (taken made stale missed taken' made' stale' missed' : List (List ℕ)) (id : List ℕ) (outcome : Outcome) → HasWorked v taken made stale missed u
      → WorksOn desk command_of u id outcome w → taken' ≡ taken ++ id ∷ []
      → made' ≡ (if is_made outcome then made ++ id ∷ [] else made) → stale' ≡ (if is_stale outcome then stale ++ id ∷ [] else stale) → missed' ≡ (if is_missed outcome then missed ++ id ∷ [] else missed)
      → HasWorked v taken' made' stale' missed' w
  has_worked_more v u w taken made stale missed taken' made' stale' missed' id outcome has last taken_is made_is stale_is missed_is =
      let work : Work = record { id = id; outcome = outcome } in
      let more = λ (test : Outcome → Bool) (ids ids' : List (List ℕ)) (are : ids ≡ ids_with test has.works) (is : ids' ≡ (if test outcome then ids ++ id ∷ [] else ids)).
      noted (test outcome) ids ids' id is ∙ (ap (λ l. l ++ (if test outcome then id ∷ [] else [])) are ∙ sym (more_with test has.works work)) in
      record {
        works = has.works ++ work ∷ [];
        each = more_works desk command_of v u w has.works id outcome has.each last;
        taken_are = taken_is ∙ (ap (λ l. l ++ id ∷ []) has.taken_are ∙ sym (more_ids has.works work));
        made_are = more is_made made made' has.made_are made_is;
        stale_are = more is_stale stale stale' has.stale_are stale_is;
        missed_are = more is_missed missed missed' has.missed_are missed_is;
      }

  pub worked_whole : (v w : Knows A B) (taken made stale missed : List (List ℕ)) (stop : WorkerStop) → HasWorked v taken made stale missed w
      → Worked desk command_of v taken made stale missed stop w
  worked_whole v w taken made stale missed stop has = record {
    works = has.works;
    between = w;
    each = has.each;
    left = None;
    last = refl;
    taken_are = has.taken_are ∙ sym (append-nil (ids_of has.works));
    made_are = has.made_are;
    stale_are = has.stale_are;
    missed_are = has.missed_are;
    ended = λ _. refl;
  }

  not_ended : S.NoMemory ≡ S.Ended → ⊥
  not_ended is = cc

  pub worked_part : (v u w : Knows A B) (taken made stale missed taken' : List (List ℕ)) (id : List ℕ) → HasWorked v taken made stale missed u
      → LeavesOff desk command_of u id w → taken' ≡ taken ++ id ∷ []
      → Worked desk command_of v taken' made stale missed S.NoMemory w
  worked_part v u w taken made stale missed taken' id has last taken_is = record {
    works = has.works;
    between = u;
    each = has.each;
    left = Some id;
    last = last;
    taken_are = taken_is ∙ ap (λ l. l ++ id ∷ []) has.taken_are;
    made_are = has.made_are;
    stale_are = has.stale_are;
    missed_are = has.missed_are;
    ended = λ is. absurd (not_ended is);
  }

-- ---- the takes

crashes_more : (ids : List (List ℕ)) (id : List ℕ) → crash_jobs (ids ++ id ∷ []) ≡ crash_jobs ids ++ J.Crash id ∷ []
crashes_more [] id = refl
crashes_more (first ∷ ids) id = ap (λ l. J.Crash first ∷ l) (crashes_more ids id)

-- the takes after one crash more
pub takes_more : (before now now' : List Job) (ids ids' : List (List ℕ)) (id : List ℕ) → now ≡ before ++ crash_jobs ids → now' ≡ now ++ J.Crash id ∷ [] → ids' ≡ ids ++ id ∷ [] → now' ≡ before ++ crash_jobs ids'
takes_more before now now' ids ids' id is more listed =
    more ∙ (ap (λ l. l ++ J.Crash id ∷ []) is ∙ (append_assoc before (crash_jobs ids) (J.Crash id ∷ [])
    ∙ ap (λ l. before ++ l) (sym (crashes_more ids id) ∙ sym (ap crash_jobs listed))))

-- the takes of a processor that stops for want of memory
pub takes_whole : (before now : List Job) (ids : List (List ℕ)) → now ≡ before ++ crash_jobs ids → now ≡ before ++ (crash_jobs ids ++ last_job S.NoMemory)
takes_whole before now ids is = is ∙ ap (λ l. before ++ l) (sym (append-nil (crash_jobs ids)))

-- the takes of one that has ended
pub takes_end : (before now now' : List Job) (ids : List (List ℕ)) → now ≡ before ++ crash_jobs ids → now' ≡ now ++ J.End ∷ [] → now' ≡ before ++ (crash_jobs ids ++ last_job S.Ended)
takes_end before now now' ids is more = more ∙ (ap (λ l. l ++ J.End ∷ []) is ∙ append_assoc before (crash_jobs ids) (J.End ∷ []))

-- ---- what a processor gives back

module _ {T A B : Type 0} (desk : Shared T A B) (command_of : A → Command) where
  pub worked_given : (v w w' : Knows A B) (taken made stale missed taken' made' stale' missed' : List (List ℕ)) (stop stop' : WorkerStop)
      → taken' ≡ taken → made' ≡ made → stale' ≡ stale → missed' ≡ missed → stop' ≡ stop → w' ≡ w
      → Worked desk command_of v taken made stale missed stop w → Worked desk command_of v taken' made' stale' missed' stop' w'
  worked_given v w w' taken made stale missed taken' made' stale' missed' stop stop' a b c d e f worked =
      subst (λ x. Worked desk command_of v x made' stale' missed' stop' w') (sym a)
      (subst (λ x. Worked desk command_of v taken x stale' missed' stop' w') (sym b)
      (subst (λ x. Worked desk command_of v taken made x missed' stop' w') (sym c)
      (subst (λ x. Worked desk command_of v taken made stale x stop' w') (sym d)
      (subst (λ x. Worked desk command_of v taken made stale missed x w') (sym e)
      (subst (λ x. Worked desk command_of v taken made stale missed stop x) (sym f) worked)))))

pub takes_given : (given pass : Pass) (before : List Job) (taken taken' : List (List ℕ)) (stop stop' : WorkerStop) → given ≡ pass → taken' ≡ taken → stop' ≡ stop
    → (pass_seen pass).takes ≡ before ++ (crash_jobs taken ++ last_job stop) → (pass_seen given).takes ≡ before ++ (crash_jobs taken' ++ last_job stop')
takes_given given pass before taken taken' stop stop' same a b is =
    ap (λ q. (pass_seen q).takes) same ∙ (is ∙ (ap (λ ids. before ++ (crash_jobs ids ++ last_job stop)) (sym a) ∙ ap (λ s. before ++ (crash_jobs taken' ++ last_job s)) (sym b)))

-- ---- the puts

pub puts_none : (pass : Pass) → PutsCrashes (pass_seen pass) (pass_seen pass)
puts_none pass = record { crashes = []; number = refl; puts = sym (append-nil (pass_seen pass).puts) }

pub puts_given : (given pass before : Pass) → given ≡ pass → PutsCrashes (pass_seen before) (pass_seen pass) → PutsCrashes (pass_seen before) (pass_seen given)
puts_given given pass before same puts = subst (λ p. PutsCrashes (pass_seen before) (pass_seen p)) (sym same) puts

-- where a crash that waited was put, or none
pub puts_refilled : (before pass after : Pass) → MayPut (pass_seen pass) (pass_seen after) → PutsCrashes (pass_seen before) (pass_seen pass) → PutsCrashes (pass_seen before) (pass_seen after)
puts_refilled before pass after (inl none) puts = subst (λ s. PutsCrashes (pass_seen before) s) (sym none) puts
puts_refilled before pass after (inr (id, one)) puts = record {
  crashes = puts.crashes ++ id ∷ [];
  number = ap (λ s. s.number) one.is_now ∙ puts.number;
  puts = ap (λ s. s.puts) one.is_now ∙ (ap (λ l. l ++ J.Crash id ∷ []) puts.puts
      ∙ (append_assoc (pass_seen before).puts (crash_jobs puts.crashes) (J.Crash id ∷ []) ∙ ap (λ l. (pass_seen before).puts ++ l) (sym (crashes_more puts.crashes id))));
}

-- and then a job was taken
pub puts_taken : (before pass after : Pass) (job : Job) → Takes (pass_seen pass) job (pass_seen after) → PutsCrashes (pass_seen before) (pass_seen pass) → PutsCrashes (pass_seen before) (pass_seen after)
puts_taken before pass after job takes puts = record {
  crashes = puts.crashes;
  number = ap (λ s. s.number) takes.is_now ∙ puts.number;
  puts = ap (λ s. s.puts) takes.is_now ∙ puts.puts;
}

pub takes_refilled : (pass after : Pass) → MayPut (pass_seen pass) (pass_seen after) → (pass_seen after).takes ≡ (pass_seen pass).takes
takes_refilled pass after (inl none) = ap (λ s. s.takes) none
takes_refilled pass after (inr (id, one)) = ap (λ s. s.takes) one.is_now

pub took : (pass refilled after : Pass) (job other : Job) → MayPut (pass_seen pass) (pass_seen refilled) → Takes (pass_seen refilled) job (pass_seen after) → job ≡ other
    → (pass_seen after).takes ≡ (pass_seen pass).takes ++ other ∷ []
took pass refilled after job other put takes is =
    ap (λ s. s.takes) takes.is_now ∙ (ap (λ l. l ++ job ∷ []) (takes_refilled pass refilled put) ∙ ap (λ j. (pass_seen pass).takes ++ j ∷ []) is)

pub takes_none : (before : List Job) (taken : List (List ℕ)) → taken ≡ [] → before ≡ before ++ crash_jobs taken
takes_none before taken is = sym (append-nil before) ∙ ap (λ ids. before ++ crash_jobs ids) (sym is)
