-- What a command that writes does, from what it settles, decides and appends.
use Rattle.std.proofs.Common.{◌≡◌, ◌≢◌, ◌⊎◌, inl, inr, ℕ, ◌<◌, ◌≤◌, Bool, true, false, IsTrue, List, [], ◌∷◌, ◌++◌, map, Option, Some, None, IsSomeAnd, MatchOption, Result, Ok, Err, sym, ap, subst, ◌∙◌, refl, arith, append_assoc}
use Rattle.soc_book.proofs.Words.{append-nil, map-append, RawCrash, Cell, Caller, Permission, DiskTold, GoesOn, Looks, DiskFailed, GoesOn-append, LeavesOnly-append, LeavesOnly-weaker, JournalState, Event, LedgerState, Command, Limits, Reply, Refusal, Gains, IsStoreFault, IsAltered, Basis, Decision, appends, decide, lacked, answers, IfElse, Refuses, Appends, Decides, FailsRead, FailsMend, SettlesAndDecides, StepWriting, Step, BehindDoubt, Writes, Grows, IsOwnReply, IsReplyTo, Change, Kept, keep, event_of, events, State, doubted, settled, Settles, kept_of, has_room, Allowed, Survives, Pending, Adds, Does, IsDecided, IsSettledReply, AreAppended, IsWritten, RepliesAs, Stays, Stands}
use Rattle.soc_desk.specs.declared.desk.Command.TheVariants as C
use Rattle.soc_desk.specs.declared.desk.Reply.TheVariants as R
use Rattle.soc_desk.specs.declared.desk.Refusal.TheVariants as F
use Rattle.soc_desk.specs.State.{StandsFor}
use Rattle.soc_book.proofs.Changes.{allowed-plain, events-all, kept-all}
use Rattle.soc_book.proofs.Standing.{allowed_in, no_room_one, room_one}

-- ---- the commands that write

-- what is known of each command that writes
pub record IsWriting (basis : Basis) (command : Command) : Type 0 where
  pub step : (before : State) (reply : Reply) (after : State) → StepWriting basis before command reply after → Step basis before command reply after
  pub grows : (log : List Event) (doubt : List Event) (reply : Reply) (piece : List Event) (after : List Event) → Writes log doubt piece reply after (Adds basis command reply after) → Grows basis log doubt command reply piece after
  pub no_memory : lacked command ≡ None → IsReplyTo command (R.Refused F.NoMemory)
  pub store_fault : lacked command ≡ None → IsReplyTo command (R.Refused F.StoreFault)
  pub journal_full : lacked command ≡ None → IsReplyTo command (R.Refused F.JournalFull)
  pub unaltered : (reply : Reply) → IsReplyTo command reply → IsAltered reply → ⊥

unaltered : (command : Command) → ((id : List ℕ) → IsOwnReply command (R.Refused (F.Altered id)) → ⊥) → (reply : Reply) → IsReplyTo command reply → IsAltered reply → ⊥
unaltered command never (R.Refused (F.Altered id)) kind is = never id kind.1
unaltered command never (R.Refused _) kind is = is
unaltered command never _ kind is = is

pub writes_submit : (basis : Basis) (raw : RawCrash) → IsWriting basis (C.Submit raw)
writes_submit basis raw = record { step = λ before reply after step. step; grows = λ log doubt reply piece after grows. grows; no_memory = λ none. (none, tt); store_fault = λ none. (none, tt); journal_full = λ none. (none, tt); unaltered = unaltered (C.Submit raw) (λ other never. never) }

pub writes_priority : (basis : Basis) (caller : Caller) (id : List ℕ) → IsWriting basis (C.Priority caller id)
writes_priority basis caller id = record { step = λ before reply after step. step; grows = λ log doubt reply piece after grows. grows; no_memory = λ none. (none, tt); store_fault = λ none. (none, tt); journal_full = λ none. (none, tt); unaltered = unaltered (C.Priority caller id) (λ other never. never) }

pub writes_reprocess : (basis : Basis) (caller : Caller) (id : List ℕ) → IsWriting basis (C.Reprocess caller id)
writes_reprocess basis caller id = record { step = λ before reply after step. step; grows = λ log doubt reply piece after grows. grows; no_memory = λ none. (none, tt); store_fault = λ none. (none, tt); journal_full = λ none. (none, tt); unaltered = unaltered (C.Reprocess caller id) (λ other never. never) }

pub writes_withdraw : (basis : Basis) (caller : Caller) (id : List ℕ) → IsWriting basis (C.Withdraw caller id)
writes_withdraw basis caller id = record { step = λ before reply after step. step; grows = λ log doubt reply piece after grows. grows; no_memory = λ none. (none, tt); store_fault = λ none. (none, tt); journal_full = λ none. (none, tt); unaltered = unaltered (C.Withdraw caller id) (λ other never. never) }

-- ---- disks

-- a fault in a later part of a call is one in the whole
pub failed_later : (disk middle disk' : DiskTold) → GoesOn disk middle → DiskFailed middle disk' → DiskFailed disk disk'
failed_later disk middle disk' goes_on (inl rose) =
    let kept : disk.faults ≤ middle.faults = goes_on.faults_never_fall in
    let more : middle.faults < disk'.faults = rose in
    inl (omega arith)
failed_later disk middle disk' goes_on (inr last) = inr last

-- what stands once a doubt is settled was allowed before
stood_settled : (log : List Change) (doubt : List Kept) (log' : List Change) → Settles log doubt log' → (image : List ℕ) → StandsFor image (kept_of log') → Allowed (record { log = log; doubt = doubt }) image
stood_settled log [] log' same image text = inl (subst (λ (l : List Change). StandsFor image (kept_of l)) same text)
stood_settled log (first ∷ more) log' (inl kept) image text =
    inr (subst (λ (ks : List Kept). StandsFor image ks) (kept-all log (first ∷ more)) (subst (λ (l : List Change). StandsFor image (kept_of l)) kept text))
stood_settled log (first ∷ more) log' (inr dropped) image text = inl (subst (λ (l : List Change). StandsFor image (kept_of l)) dropped text)

allowed_settled : (log : List Change) (doubt : List Kept) (log' : List Change) → Settles log doubt log' → (image : List ℕ) → Allowed (settled log') image → Allowed (record { log = log; doubt = doubt }) image
allowed_settled log doubt log' settles image allowed = stood_settled log doubt log' settles image (allowed-plain log' image allowed)

-- what is appended behind a doubt that was kept, or without one
gains_behind : (basis : Basis) (before : State) (doubt : List Kept) (log own : List Change) (after : State) (command : Command) (reply : Reply) (Adding : List Event → List Event → Type 0)
    → ((piece : List Event) → BehindDoubt (events basis before.log) (map (λ change. event_of basis (keep change)) doubt) piece Adding → Grows basis (events basis before.log) (doubted basis before) command reply piece (doubted basis after))
    → Settles before.log doubt log → after.log ≡ log ++ own → Adding (events basis log) (events basis own) → Gains basis before command reply after
gains_behind basis before [] log own after command reply Adding grows same behind adds = record {
  piece = own;
  behind = behind ∙ ap (λ (l : List Change). l ++ own) same;
  grows = grows (events basis own) (subst (λ (l : List Change). Adding (events basis l) (events basis own)) same adds);
}
gains_behind basis before (first ∷ more) log own after command reply Adding grows (inl kept) behind adds =
    let changes = map keep (first ∷ more) in
    let told = events-all basis (first ∷ more) in
    record {
      piece = changes ++ own;
      behind = behind ∙ (ap (λ (l : List Change). l ++ own) kept ∙ append_assoc before.log changes own);
      grows = grows (events basis (changes ++ own)) (inr (
        events basis own,
        map-append (event_of basis) changes own ∙ ap (λ (l : List Event). l ++ events basis own) told,
        subst (λ (l : List Event). Adding l (events basis own)) (ap (events basis) kept ∙ (map-append (event_of basis) before.log changes ∙ ap (λ (l : List Event). events basis before.log ++ l) told)) adds,
      ));
    }
gains_behind basis before (first ∷ more) log own after command reply Adding grows (inr dropped) behind adds = record {
  piece = own;
  behind = behind ∙ ap (λ (l : List Change). l ++ own) dropped;
  grows = grows (events basis own) (inl (subst (λ (l : List Change). Adding (events basis l) (events basis own)) dropped adds));
}

plain_writes : (log : List Event) (doubt : List Event) (piece : List Event) (reply : Reply) (after : List Event) (Adding : List Event → List Event → Type 0) → IsSettledReply reply → BehindDoubt log doubt piece Adding
    → Writes log doubt piece reply after Adding
plain_writes log doubt piece (R.Refused F.NoMemory) after Adding plain behind = absurd plain
plain_writes log doubt piece (R.Refused (F.NoPermission name)) after Adding plain behind = absurd plain
plain_writes log doubt piece (R.Refused F.StoreFault) after Adding plain behind = inr behind
plain_writes log doubt piece _ after Adding plain behind = behind

-- a doubt is one of events
pub mapped_some : {A B : Type 0} (f : A → B) (xs : List A) → xs ≢ [] → map f xs ≢ []
mapped_some f [] some = absurd (some refl)
mapped_some f (x ∷ xs) some = λ is. cc

-- nothing of the doubt was kept
pub without_doubt : (log : List Event) (doubt : List Event) (piece : List Event) (Adding : List Event → List Event → Type 0) → Adding log piece → BehindDoubt log doubt piece Adding
without_doubt log [] piece Adding adds = adds
without_doubt log (event ∷ more) piece Adding adds = inl adds

-- ---- before the log decides

module _ {basis : Basis} {command : Command} (writing : IsWriting basis command) {limits : Limits} {ledger : LedgerState} {rows : List (ℕ × List Cell)} {pending : Option Pending} {journal : JournalState} {disk : DiskTold} {before : State}
    (stands : Stands basis limits ledger rows pending journal disk before) {disk' : DiskTold} (looks : Looks disk disk') where
  survives_same : IsTrue basis.is_told → Survives disk disk' before before
  survives_same is_told = LeavesOnly-weaker disk disk' disk.images (λ image. Allowed before image ⊎ Allowed before image) (λ image left. inl (allowed_in stands is_told image left)) looks.any_moment

  -- the state stays
  early : (reply : Reply) → IsReplyTo command reply → Writes (events basis before.log) (doubted basis before) [] reply (doubted basis before) (Adds basis command reply (doubted basis before)) → (IsStoreFault reply → DiskFailed disk disk') → StepWriting basis before command reply before
      → Does basis before disk command reply before disk'
  early reply kind grows fault step = record {
    kind = kind;
    gains = record { piece = []; behind = sym (append-nil before.log); grows = writing.grows (events basis before.log) (doubted basis before) reply [] (doubted basis before) grows };
    goes_on = looks.goes_on;
    fault = fault;
    altered = λ is. absurd (writing.unaltered reply kind is);
    step = λ is_told. writing.step before reply before step;
    survives = survives_same;
  }

  -- what a step does where the permission isn't lacked
  abbrev Permitted : Reply → State → Type 0
  Permitted reply after = Refuses before F.NoMemory reply after ⊎ (FailsMend before reply after ⊎ SettlesAndDecides basis before command reply after)

  allowed_step : (reply : Reply) (after : State) → lacked command ≡ None → Permitted reply after → StepWriting basis before command reply after
  allowed_step reply after permitted step =
      subst (λ (o : Option Permission). MatchOption o (Permitted reply after) (λ n. Refuses before (F.NoPermission n) reply after)) (sym permitted) step

  pub lacks_permission : (name : Permission) → lacked command ≡ Some name → Does basis before disk command (R.Refused (F.NoPermission name)) before disk'
  lacks_permission name lacks = early (R.Refused (F.NoPermission name)) lacks (refl, refl) (λ never. absurd never)
      (subst (λ (o : Option Permission). MatchOption o (Permitted (R.Refused (F.NoPermission name)) before) (λ n. Refuses before (F.NoPermission n) (R.Refused (F.NoPermission name)) before)) (sym lacks) (refl, refl))

  pub wants_memory : lacked command ≡ None → Does basis before disk command (R.Refused F.NoMemory) before disk'
  wants_memory permitted =
      early (R.Refused F.NoMemory) (writing.no_memory permitted) (refl, refl) (λ never. absurd never) (allowed_step (R.Refused F.NoMemory) before permitted (inl (refl, refl)))

  pub fails_mend : lacked command ≡ None → before.doubt ≢ [] → DiskFailed disk disk' → Does basis before disk command (R.Refused F.StoreFault) before disk'
  fails_mend permitted doubt failed = early (R.Refused F.StoreFault) (writing.store_fault permitted)
      (inl (mapped_some (λ change. event_of basis (keep change)) before.doubt doubt, (refl, refl))) (λ is. failed)
      (allowed_step (R.Refused F.StoreFault) before permitted (inr (inl (doubt, (refl, refl)))))

  -- the doubt isn't settled
  pub doesnt_begin : (Now : State → Type 0) (refusal : Refusal) → lacked command ≡ None → Stays before disk disk' refusal Now → (after : State) × Now after × Does basis before disk command (R.Refused refusal) after disk'
  doesnt_begin Now F.StoreFault permitted (doubt, failed, now) = (before, now, fails_mend permitted doubt failed)
  doesnt_begin Now F.NoMemory permitted now = (before, now, wants_memory permitted)
  doesnt_begin Now _ permitted never = absurd never

  -- the doubt was settled, and then the log decides
  module _ (disk'' : DiskTold) (reply : Reply) (after : State) (permitted : lacked command ≡ None) (log : List Change) (settles : Settles before.log before.doubt log)
      (decided : IsDecided basis log disk' command reply after disk'') where
    survives_both : IsTrue basis.is_told → Survives disk disk'' before after
    survives_both is_told = LeavesOnly-append disk disk' disk'' (λ image. Allowed before image ⊎ Allowed after image) looks.goes_on decided.goes_on
        (LeavesOnly-weaker disk disk' disk.images (λ image. Allowed before image ⊎ Allowed after image) (λ image left. inl (allowed_in stands is_told image left)) looks.any_moment)
        (LeavesOnly-weaker disk' disk'' (λ image. Allowed (settled log) image ⊎ Allowed after image) (λ image. Allowed before image ⊎ Allowed after image)
        (λ image left. elim left [
          | inl earlier ↦ inl (allowed_settled before.log before.doubt log settles image earlier)
          | inr later ↦ inr later
        ]) (decided.survives is_told))

    pub does_behind : Does basis before disk command reply after disk''
    does_behind = record {
      kind = decided.kind;
      gains = gains_behind basis before before.doubt log decided.own after command reply (Adds basis command reply (doubted basis after))
          (λ piece behind. writing.grows (events basis before.log) (doubted basis before) reply piece (doubted basis after)
          (plain_writes (events basis before.log) (doubted basis before) piece reply (doubted basis after) (Adds basis command reply (doubted basis after)) decided.plain behind)) settles decided.behind decided.adds;
      goes_on = GoesOn-append disk disk' disk'' looks.goes_on decided.goes_on;
      fault = λ is. failed_later disk disk' disk'' looks.goes_on (decided.fault is);
      altered = λ is. absurd (writing.unaltered reply decided.kind is);
      step = λ is_told. writing.step before reply after
          (allowed_step reply after permitted (inr (inr (record { log = log; settles = settles; decides = decided.decides is_told }))));
      survives = survives_both;
    }

  pub begun_does : (Now : State → Type 0) {disk'' : DiskTold} {reply : Reply} → lacked command ≡ None → (log : List Change) × Settles before.log before.doubt log × Now (settled log)
      → (Later : State → Type 0) → ((log : List Change) → Now (settled log) → (after : State) × Later after × IsDecided basis log disk' command reply after disk'')
      → (after : State) × Later after × Does basis before disk command reply after disk''
  begun_does Now {disk'' = disk''} {reply = reply} permitted (log, settles, now) Later decides =
      let d = decides log now in
      (d.0, d.1, does_behind disk'' reply d.0 permitted log settles d.2)

-- ---- what the settled log decides

module _ (basis : Basis) (log : List Change) (disk disk' : DiskTold) (command : Command) where
  -- an answer: nothing is written
  pub answered : (said : Reply) → Looks disk disk' → (IsTrue basis.is_told → (image : List ℕ) → disk.images image → Allowed (settled log) image) → IsReplyTo command said → IsSettledReply said
      → (IsStoreFault said → DiskFailed disk disk') → Adds basis command said [] (events basis log) []
      → (IsTrue basis.is_told → IsSomeAnd (decide basis log command) (λ decision. Decides basis log decision said (settled log)) ⊎ FailsRead basis log command said (settled log))
      → IsDecided basis log disk command said (settled log) disk'
  answered said looks allowed kind plain fault adds decides = record {
    kind = kind;
    plain = plain;
    own = [];
    behind = sym (append-nil log);
    adds = adds;
    goes_on = looks.goes_on;
    fault = fault;
    decides = decides;
    survives = λ is_told. LeavesOnly-weaker disk disk' disk.images (λ image. Allowed (settled log) image ⊎ Allowed (settled log) image) (λ image left. inl (allowed is_told image left)) looks.any_moment;
  }

  -- the decision of a settled log, by what it is
  pub decided_as : (decision : Decision) (reply : Reply) (after : State) → decide basis log command ≡ Some decision → Decides basis log decision reply after
      → IsSomeAnd (decide basis log command) (λ d. Decides basis log d reply after) ⊎ FailsRead basis log command reply after
  decided_as decision reply after is decides =
      let P : Option Decision → Type 0 = λ o. IsSomeAnd o (λ d. Decides basis log d reply after) in
      inl (subst P (sym is) decides)

  -- a reply that the settled log gives, without a change
  pub says : (said : Reply) → Looks disk disk' → (IsTrue basis.is_told → (image : List ℕ) → disk.images image → Allowed (settled log) image) → IsReplyTo command said → IsSettledReply said → (IsStoreFault said → ⊥) → Adds basis command said [] (events basis log) []
      → (IsTrue basis.is_told → decide basis log command ≡ Some (answers said)) → IsDecided basis log disk command said (settled log) disk'
  says said looks allowed kind plain no_fault adds is =
      answered said looks allowed kind plain (λ fault. absurd (no_fault fault)) adds (λ is_told. decided_as (answers said) said (settled log) (is is_told) (refl, refl))

  -- a change that may be appended with this reply
  pub record MayAppend (change : Kept) (written : Reply) : Type 0 where
    pub kind : IsReplyTo command written
    pub fault_kind : IsReplyTo command (R.Refused F.StoreFault)
    pub full_kind : IsReplyTo command (R.Refused F.JournalFull)
    pub plain : IsSettledReply written
    pub no_fault : IsStoreFault written → ⊥
    pub adds : Adds basis command written [] (events basis log) (event_of basis (keep change) ∷ [])
    pub fault_adds : Adds basis command (R.Refused F.StoreFault) (event_of basis (keep change) ∷ []) (events basis log) []
    pub full_adds : Adds basis command (R.Refused F.JournalFull) [] (events basis log) []

  module _ (change told : Kept) (written : Reply) (may : MayAppend change written) (same : IsTrue basis.is_told → change ≡ told) (is : IsTrue basis.is_told → decide basis log command ≡ Some (appends told written)) where
    decides_to : (b : Bool) (reply : Reply) (after : State) → IsTrue basis.is_told → has_room basis log change ≡ b
        → IfElse b (((reply ≡ written) × (after ≡ settled (log ++ keep change ∷ []))) ⊎ ((reply ≡ R.Refused F.StoreFault) × (after ≡ record { log = log; doubt = change ∷ [] })))
        ((reply ≡ R.Refused F.JournalFull) × (after ≡ settled log)) → IsSomeAnd (decide basis log command) (λ d. Decides basis log d reply after) ⊎ FailsRead basis log command reply after
    decides_to b reply after is_told room ends =
        let P : Bool → Type 0 = λ x. IfElse x (((reply ≡ written) × (after ≡ settled (log ++ keep change ∷ []))) ⊎ ((reply ≡ R.Refused F.StoreFault) × (after ≡ record { log = log; doubt = change ∷ [] })))
        ((reply ≡ R.Refused F.JournalFull) × (after ≡ settled log)) in
        let here : Appends basis log change written reply after = subst P (sym room) ends in
        decided_as (appends told written) reply after (is is_told) (subst (λ (k : Kept). Appends basis log k written reply after) (same is_told) here)

    appended : (result : Result (Unit {0}) Refusal) (reply : Reply) (after : State) → AreAppended basis log disk (change ∷ []) result after disk' → RepliesAs result written reply → IsDecided basis log disk command reply after disk'
    appended (Ok done) reply after did said = record {
      kind = subst (λ (r : Reply). IsReplyTo command r) (sym said) may.kind;
      plain = subst IsSettledReply (sym said) may.plain;
      own = keep change ∷ [];
      behind = ap (λ (s : State). s.log) did.ends.0;
      adds = subst (λ (s : State). Adds basis command reply (doubted basis s) (events basis log) (event_of basis (keep change) ∷ [])) (sym did.ends.0)
          (subst (λ (r : Reply). Adds basis command r [] (events basis log) (event_of basis (keep change) ∷ [])) (sym said) may.adds);
      goes_on = did.goes_on;
      fault = λ fault. absurd (may.no_fault (subst IsStoreFault said fault));
      decides = λ is_told. decides_to true reply after is_told (room_one basis log change (did.ends.1 is_told)) (inl (said, did.ends.0));
      survives = did.survives;
    }
    appended (Err F.StoreFault) reply after did said = record {
      kind = subst (λ (r : Reply). IsReplyTo command r) (sym said) may.fault_kind;
      plain = subst IsSettledReply (sym said) tt;
      own = [];
      behind = ap (λ (s : State). s.log) did.ends.0 ∙ sym (append-nil log);
      adds = subst (λ (s : State). Adds basis command reply (doubted basis s) (events basis log) []) (sym did.ends.0)
          (subst (λ (r : Reply). Adds basis command r (event_of basis (keep change) ∷ []) (events basis log) []) (sym said) may.fault_adds);
      goes_on = did.goes_on;
      fault = λ fault. did.ends.1;
      decides = λ is_told. decides_to true reply after is_told (room_one basis log change (did.ends.2 is_told)) (inr (said, did.ends.0));
      survives = did.survives;
    }
    appended (Err F.JournalFull) reply after did said = record {
      kind = subst (λ (r : Reply). IsReplyTo command r) (sym said) may.full_kind;
      plain = subst IsSettledReply (sym said) tt;
      own = [];
      behind = ap (λ (s : State). s.log) did.ends.0 ∙ sym (append-nil log);
      adds = subst (λ (s : State). Adds basis command reply (doubted basis s) (events basis log) []) (sym did.ends.0)
          (subst (λ (r : Reply). Adds basis command r [] (events basis log) []) (sym said) may.full_adds);
      goes_on = did.goes_on;
      fault = λ fault. absurd (subst IsStoreFault said fault);
      decides = λ is_told. decides_to false reply after is_told (no_room_one basis log change (did.ends.1 is_told)) (said, did.ends.0);
      survives = did.survives;
    }
    appended (Err _) reply after did said = absurd did.ends

    pub written_decides : (reply : Reply) (after : State) → IsWritten basis log disk change written reply after disk' → IsDecided basis log disk command reply after disk'
    written_decides reply after wrote = appended wrote.result reply after wrote.appended wrote.replies
