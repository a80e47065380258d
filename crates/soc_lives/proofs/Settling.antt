-- Each doubt is settled once at most.
use Rattle.std.proofs.Common.{◌≡◌, ◌⊎◌, inl, inr, ℕ, Bool, true, false, IsTrue, List, [], ◌∷◌, ◌++◌, map, Option, Some, None, IfSome, IsSomeAnd, MatchOption, sym, ap, subst, ◌∙◌, refl}
use Rattle.std.specs.Prelude.{if◌then◌else◌, bytes_eq, length, nat_le, take, ◌||◌, ⊤}
use Rattle.std.specs.List.{AllByRecursion}
use Rattle.std.specs.Option.{option_map_or}
use Rattle.std.proofs.lemmas.List.{append-nil}
use Rattle.soc_raw.specs.RawCrash.{crash_of}
use Rattle.soc_raw.specs.Record.{Crash, content_text}
use Rattle.soc_raw.specs.declared.raw_crash.RawCrash.{RawCrash}
use Rattle.soc_schema.specs.declared.caller.Caller.{Caller}
use Rattle.soc_schema.specs.declared.permission.Permission.{Permission}
use Rattle.soc_ledger.specs.Due.{due_ids, is_due}
use Rattle.soc_ledger.specs.Events.{accepted_ids, has_stop, is_held, was_withdrawn}
use Rattle.soc_ledger.specs.Reported.{has_report}
use Rattle.soc_desk.specs.declared.desk.Command.{Command}
use Rattle.soc_desk.specs.declared.desk.Command.TheVariants as C
use Rattle.soc_desk.specs.declared.desk.Refusal.TheVariants as F
use Rattle.soc_desk.specs.declared.desk.Reply.{Reply}
use Rattle.soc_desk.specs.declared.desk.Reply.TheVariants as R
use Rattle.soc_desk.specs.Basis.{Basis}
use Rattle.soc_desk.specs.Batches.{AcceptNew}
use Rattle.soc_desk.specs.Decisions.{Decision, accepting, answers, appends, decide, decide_new, decide_priority, decide_repeated, decide_submission, lacked}
use Rattle.soc_desk.specs.Desk.{Decides, DrainsAll, Fails, FailsMend, FailsRead, IfElse, IsFetched, IsRecord, Refuses, SettlesAndDecides, Step, StepFetch, StepFinish, StepReading, StepRecord, StepSearching, StepStop, StepWriting, TurnsFirst, with_done}
use Rattle.soc_desk.specs.Keeps.{KeepsFirst}
use Rattle.soc_desk.specs.Log.{Change, Kept, ask, withdraw, done, keep, stop, events, raw_of}
use Rattle.soc_desk.specs.Reads.{read_reply}
use Rattle.soc_desk.specs.State.{Settles, State, has_room, kept_of, settled}
use Rattle.soc_desk.specs.View.{is_in, view_of}
use Rattle.soc_lives.specs.Lives.{Action, asking, storing, failing, keeping, AllLive, Does, Follow, Life, Transition, Writes, all_doubted, all_kept, opened}
use Rattle.soc_lives.specs.Laws.{FailsToWrite, IsNoReport, LeavesDoubt, SettleOnce, SettlesDoubt}
use Rattle.soc_lives.proofs.Growth.{kept_all, kept_more}
use Rattle.soc_lives.proofs.Places.{all_accepting}

-- settles the doubt, and neither adds a report nor leaves one in doubt
pub record SettlesPlainly (before : State) (action : Action) (after : State) : Type 0 where
  pub log : List Change
  pub settles : Settles before.log before.doubt log
  pub own : List Change
  pub after_log : after.log ≡ log ++ own
  pub gone : (after.doubt ≡ []) ⊎ FailsToWrite action
  pub plain : AllByRecursion IsNoReport (kept_of own ++ after.doubt)

abbrev pub Once : State → Action → State → Type 0
Once before action after = LeavesDoubt before after ⊎ SettlesPlainly before action after

-- the decision appends no report
abbrev IsPlain : Decision → Type 0
IsPlain (answers said) = ⊤
IsPlain (appends change written) = IsNoReport change

either_plain : (b : Bool) (x y : Decision) → IsPlain x → IsPlain y → IsPlain (if b then x else y)
either_plain true x y first second = first
either_plain false x y first second = second

submission_plain : (basis : Basis) (log : List Change) (crash : Crash) → IsPlain (decide_submission basis log crash)
submission_plain basis log crash =
    either_plain (was_withdrawn (events basis log) crash.id) _ (option_map_or (decide_repeated crash) (raw_of log crash.id) (decide_new basis log crash)) tt (by (raw_of log crash.id)) where
      by : (held : Option Crash) → IsPlain (option_map_or (decide_repeated crash) held (decide_new basis log crash))
      by None = either_plain (nat_le basis.crashes (length (accepted_ids (events basis log)))) _ _ tt tt
      by (Some raw) = either_plain (bytes_eq (content_text raw) (content_text crash)) _ _ tt tt

decided_plain : (basis : Basis) (log : List Change) (command : Command) → IfSome (decide basis log command) IsPlain
decided_plain basis log (C.Submit raw) = submission_plain basis log (crash_of raw)
decided_plain basis log (C.Priority caller id) =
    either_plain (is_in (view_of basis log caller) id) (decide_priority basis log id) _ (either_plain (is_due (events basis log) id || has_report (events basis log) id) _ _ tt tt) tt
decided_plain basis log (C.Reprocess caller id) = either_plain (is_in (view_of basis log caller) id) (appends (ask id) (R.Asked true true)) _ tt tt
decided_plain basis log (C.Withdraw caller id) = either_plain (is_in (view_of basis log caller) id) (appends (withdraw id) R.Withdrawn) _ tt tt
decided_plain basis log _ = tt

-- ---- states that keep their doubt

stays : (before after : State) → after ≡ before → LeavesDoubt before after
stays before after same = record { same = ap (λ (s : State). s.doubt) same; nothing_kept = ap (λ (s : State). kept_of s.log) same }

none_kept : (ids : List (List ℕ)) → kept_of (map done ids) ≡ []
none_kept [] = refl
none_kept (id ∷ ids) = none_kept ids

processes : (before after : State) (ids : List (List ℕ)) → after ≡ with_done before ids → LeavesDoubt before after
processes before after ids is = record {
  same = ap (λ (s : State). s.doubt) is;
  nothing_kept = ap (λ (s : State). kept_of s.log) is ∙ (kept_more before.log (map done ids) ∙ (ap (λ (k : List Kept). kept_of before.log ++ k) (none_kept ids) ∙ append-nil (kept_of before.log)));
}

-- ---- commands

module _ (basis : Basis) (before : State) (reply : Reply) (after : State) where
  permitted : {Q : Type 0} (P : Type 0) (wants : Option Permission) → (P → Q) → (after ≡ before → Q) → MatchOption wants P (λ name. Refuses before (F.NoPermission name) reply after) → Q
  permitted P None goes refused step = goes step
  permitted P (Some name) goes refused (said, same) = refused same

  failed : (reads : Bool) → Fails before reads reply after → LeavesDoubt before after
  failed reads (inl (said, same)) = stays before after same
  failed reads (inr (is, (said, same))) = stays before after same

  reads_only : (caller : Caller) (id : List ℕ) (reads : Bool) (command : Command) → StepReading basis before caller id reads command reply after → LeavesDoubt before after
  reads_only caller id reads command step = permitted _ (lacked command) by (stays before after) step where
    by : ((read_reply (view_of basis before.log caller) command ≡ Some reply) × (after ≡ before)) ⊎ (IsTrue (is_in (view_of basis before.log caller) id) × Fails before reads reply after) → LeavesDoubt before after
    by (inl (said, same)) = stays before after same
    by (inr (seen, fails)) = failed reads fails

  searches : (caller : Caller) (command : Command) → StepSearching basis before caller command reply after → LeavesDoubt before after
  searches caller command (inl (said, same)) = stays before after same
  searches caller command (inr (said, same)) = stays before after same

  turns : (due : List (List ℕ)) → TurnsFirst before due reply after → LeavesDoubt before after
  turns [] (said, same) = stays before after same
  turns (id ∷ later) (inl (said, is)) = processes before after (id ∷ []) is
  turns (id ∷ later) (inr fails) = failed true fails

  stops : StepStop basis before reply after → LeavesDoubt before after
  stops (inl (said, same)) = stays before after same
  stops (inr (said, is)) = stopped (has_stop (events basis before.log)) is where
    stopped : (b : Bool) → after ≡ (if b then before else record before { log = before.log ++ stop ∷ [] }) → LeavesDoubt before after
    stopped true same = stays before after same
    stopped false is = record {
      same = ap (λ (s : State). s.doubt) is;
      nothing_kept = ap (λ (s : State). kept_of s.log) is ∙ (kept_more before.log (stop ∷ []) ∙ append-nil (kept_of before.log));
    }

  fetches : (id : List ℕ) → StepFetch basis before id reply after → LeavesDoubt before after
  fetches id step = by (is_due (events basis before.log) id) (is_held (events basis before.log) id) step where
    by : (due held : Bool) → IfElse due ((IsFetched (raw_of before.log id) reply × (after ≡ before)) ⊎ Fails before true reply after)
        ((reply ≡ (if held then R.Fetched None else R.Refused F.NoCrash)) × (after ≡ before)) → LeavesDoubt before after
    by true held (inl (said, same)) = stays before after same
    by true held (inr fails) = failed true fails
    by false held (said, same) = stays before after same

  records : (caller : Caller) (id : List ℕ) → StepRecord basis before caller id reply after → LeavesDoubt before after
  records caller id step = by (is_in (view_of basis before.log caller) id) step where
    by : (seen : Bool) → IfElse seen ((IsRecord (raw_of before.log id) reply × (after ≡ before)) ⊎ Fails before true reply after) (Refuses before F.NoCrash reply after)
        → LeavesDoubt before after
    by true (inl (said, same)) = stays before after same
    by true (inr fails) = failed true fails
    by false (said, same) = stays before after same

  finishes : (id : List ℕ) → StepFinish basis before id reply after → LeavesDoubt before after
  finishes id (inl (said, same)) = stays before after same
  finishes id (inr step) = by (is_due (events basis before.log) id) step where
    by : (due : Bool) → IfElse due ((reply ≡ R.Finished true) × (after ≡ with_done before (id ∷ []))) ((reply ≡ R.Finished false) × (after ≡ before)) → LeavesDoubt before after
    by true (said, is) = processes before after (id ∷ []) is
    by false (said, same) = stays before after same

  module _ (command : Command) (log : List Change) (settles : Settles before.log before.doubt log) where
    abbrev this : Action
    this = asking command reply

    answered : after ≡ settled log → SettlesPlainly before this after
    answered same = record {
      log = log;
      settles = settles;
      own = [];
      after_log = ap (λ (s : State). s.log) same ∙ sym (append-nil log);
      gone = inl (ap (λ (s : State). s.doubt) same);
      plain = subst (AllByRecursion IsNoReport) (sym (ap (λ (s : State). s.doubt) same)) tt;
    }

    appended : (change : Kept) → IsNoReport change → (written : Reply) (room : Bool)
        → IfElse room (((reply ≡ written) × (after ≡ settled (log ++ keep change ∷ []))) ⊎ ((reply ≡ R.Refused F.StoreFault) × (after ≡ record { log = log; doubt = change ∷ [] })))
        ((reply ≡ R.Refused F.JournalFull) × (after ≡ settled log)) → SettlesPlainly before this after
    appended change plain written true (inl (said, same)) = record {
      log = log;
      settles = settles;
      own = keep change ∷ [];
      after_log = ap (λ (s : State). s.log) same;
      gone = inl (ap (λ (s : State). s.doubt) same);
      plain = subst (λ (k : List Kept). AllByRecursion IsNoReport (change ∷ k)) (sym (ap (λ (s : State). s.doubt) same)) (plain, tt);
    }
    appended change plain written true (inr (said, same)) = record {
      log = log;
      settles = settles;
      own = [];
      after_log = ap (λ (s : State). s.log) same ∙ sym (append-nil log);
      gone = inr (subst (λ (r : Reply). FailsToWrite (asking command r)) (sym said) tt);
      plain = subst (AllByRecursion IsNoReport) (sym (ap (λ (s : State). s.doubt) same)) (plain, tt);
    }
    appended change plain written false (said, same) = answered same

    decided : (decision : Option Decision) → IfSome decision IsPlain → IsSomeAnd decision (λ d. Decides basis log d reply after) → SettlesPlainly before this after
    decided None plain decides = absurd decides
    decided (Some (answers said)) plain decides = answered decides.1
    decided (Some (appends change written)) plain decides = appended change plain written (has_room basis log change) decides

  fails_read : (log : List Change) (command : Command) → FailsRead basis log command reply after → after ≡ settled log
  fails_read log (C.Submit raw) fails = fails.2
  fails_read log _ fails = absurd fails

  settles_once : (command : Command) → SettlesAndDecides basis before command reply after → SettlesPlainly before (asking command reply) after
  settles_once command settles = by settles.decides where
    by : IsSomeAnd (decide basis settles.log command) (λ d. Decides basis settles.log d reply after) ⊎ FailsRead basis settles.log command reply after → SettlesPlainly before (asking command reply) after
    by (inl decides) = decided command settles.log settles.settles (decide basis settles.log command) (decided_plain basis settles.log command) decides
    by (inr fails) = answered command settles.log settles.settles (fails_read settles.log command fails)

  writes : (command : Command) → StepWriting basis before command reply after → Once before (asking command reply) after
  writes command step = permitted _ (lacked command) by (λ same. inl (stays before after same)) step where
    by : Refuses before F.NoMemory reply after ⊎ (FailsMend before reply after ⊎ SettlesAndDecides basis before command reply after) → Once before (asking command reply) after
    by (inl (said, same)) = inl (stays before after same)
    by (inr (inl (some, (said, same)))) = inl (stays before after same)
    by (inr (inr settles)) = inr (settles_once command settles)

drains : (before : State) (due : List (List ℕ)) (reply : Reply) (after : State) → DrainsAll before due reply after → LeavesDoubt before after
drains before due (R.Drained count) after (count_is, is) = processes before after due is
drains before due (R.Refused F.NoMemory) after (made, few, is) = processes before after (take made due) is
drains before due (R.Refused F.StoreFault) after (made, few, is) = processes before after (take made due) is
drains before due _ after fails = absurd fails

pub asked_once : (basis : Basis) (before : State) (command : Command) (reply : Reply) (after : State) → Step basis before command reply after → Once before (asking command reply) after
asked_once basis before (C.Submit raw) reply after step = writes basis before reply after (C.Submit raw) step
asked_once basis before (C.Priority caller id) reply after step = writes basis before reply after (C.Priority caller id) step
asked_once basis before (C.Reprocess caller id) reply after step = writes basis before reply after (C.Reprocess caller id) step
asked_once basis before (C.Withdraw caller id) reply after step = writes basis before reply after (C.Withdraw caller id) step
asked_once basis before (C.Raw caller id) reply after step = inl (reads_only basis before reply after caller id true (C.Raw caller id) step)
asked_once basis before (C.Processed caller id) reply after step = inl (reads_only basis before reply after caller id false (C.Processed caller id) step)
asked_once basis before (C.Dump caller id name) reply after step = inl (reads_only basis before reply after caller id true (C.Dump caller id name) step)
asked_once basis before (C.Stack caller id) reply after step = inl (records basis before reply after caller id step)
asked_once basis before (C.Search query) reply after step = inl (searches basis before reply after query.caller (C.Search query) step)
asked_once basis before (C.Tops query) reply after step = inl (searches basis before reply after query.caller (C.Tops query) step)
asked_once basis before (C.Turn caller) reply after step =
    inl (permitted basis before reply after _ (lacked (C.Turn caller)) (turns basis before reply after (due_ids (events basis before.log))) (stays before after) step)
asked_once basis before (C.Drain caller) reply after step =
    inl (permitted basis before reply after _ (lacked (C.Drain caller)) (drains before (due_ids (events basis before.log)) reply after) (stays before after) step)
asked_once basis before (C.Stop caller) reply after step = inl (permitted basis before reply after _ (lacked (C.Stop caller)) (stops basis before reply after) (stays before after) step)
asked_once basis before (C.Fetch id) reply after step = inl (fetches basis before reply after id step)
asked_once basis before (C.Finish processed) reply after step = inl (finishes basis before reply after processed.crash.id step)
asked_once basis before (C.Counts caller) reply after step =
    inl (permitted basis before reply after _ (lacked (C.Counts caller)) (λ counts. stays before after counts.1) (stays before after) step)

-- ---- other actions

keeps_first : (before : State) (log : List Change) (settles : Settles before.log before.doubt log) (all : List Kept) (reply : Reply) (after : State) → KeepsFirst log all reply after → SettlesDoubt before (keeping reply) after
keeps_first before log settles all (R.Kept count) after (count_is, is) =
    record { log = log; settles = settles; own = map keep all; after_log = ap (λ (s : State). s.log) is; gone = inl (ap (λ (s : State). s.doubt) is) }
keeps_first before log settles all (R.Refused F.NoMemory) after (first, rest, whole, some, is) =
    record { log = log; settles = settles; own = map keep first; after_log = ap (λ (s : State). s.log) is; gone = inl (ap (λ (s : State). s.doubt) is) }
keeps_first before log settles all (R.Refused F.StoreFault) after (first, failing_, rest, whole, some, is) =
    record { log = log; settles = settles; own = map keep first; after_log = ap (λ (s : State). s.log) is; gone = inr tt }
keeps_first before log settles all _ after fails = absurd fails

plain_all : (raws : List RawCrash) → AllByRecursion IsNoReport (map (λ raw. accepting (crash_of raw)) raws)
plain_all [] = tt
plain_all (raw ∷ raws) = (tt, plain_all raws)

module _ (basis : Basis) (is_told : IsTrue basis.is_told) (before : State) (raws : List RawCrash) (after : State) where
  accepts_plain : (log : List Change) (changes : List Kept) → AcceptNew basis log raws changes → AllByRecursion IsNoReport changes
  accepts_plain log changes accepts = subst (AllByRecursion IsNoReport) (sym (all_accepting basis is_told log raws changes accepts)) (plain_all raws)

  pub stores_once : Writes basis before raws all_kept after → SettlesPlainly before (storing raws) after
  stores_once writes = record {
    log = writes.log;
    settles = writes.settles;
    own = map keep writes.changes;
    after_log = ap (λ (s : State). s.log) writes.after_is;
    gone = inl (ap (λ (s : State). s.doubt) writes.after_is);
    plain = subst (AllByRecursion IsNoReport) (sym (ap (λ (k : List Kept). k ++ after.doubt) (kept_all writes.changes) ∙ (ap (λ (s : State). writes.changes ++ s.doubt) writes.after_is ∙ append-nil writes.changes)))
        (accepts_plain writes.log writes.changes writes.accepts);
  }

  pub fails_once : Writes basis before raws all_doubted after → SettlesPlainly before (failing raws) after
  fails_once writes = record {
    log = writes.log;
    settles = writes.settles;
    own = [];
    after_log = ap (λ (s : State). s.log) writes.after_is ∙ sym (append-nil writes.log);
    gone = inr tt;
    plain = subst (AllByRecursion IsNoReport) (sym (ap (λ (s : State). s.doubt) writes.after_is)) (accepts_plain writes.log writes.changes writes.accepts);
  }

plainly : (before : State) (action : Action) (after : State) → SettlesPlainly before action after → SettlesDoubt before action after
plainly before action after settles = record { log = settles.log; settles = settles.settles; own = settles.own; after_log = settles.after_log; gone = settles.gone }

either : (before : State) (action : Action) (after : State) → Once before action after → LeavesDoubt before after ⊎ SettlesDoubt before action after
either before action after (inl leaves) = inl leaves
either before action after (inr settles) = inr (plainly before action after settles)

does_once : (basis : Basis) → IsTrue basis.is_told → (before : State) (action : Action) (after : State) → Does basis before action after → LeavesDoubt before after ⊎ SettlesDoubt before action after
does_once basis is_told before (asking command reply) after step = either before (asking command reply) after (asked_once basis before command reply after step)
does_once basis is_told before (storing raws) after writes = inr (plainly before (storing raws) after (stores_once basis is_told before raws after writes))
does_once basis is_told before (failing raws) after writes = inr (plainly before (failing raws) after (fails_once basis is_told before raws after writes))
does_once basis is_told before (keeping reply) after (inl (some, (said, same))) = inl (stays before after same)
does_once basis is_told before (keeping reply) after (inr keeps) = inr (keeps_first before keeps.log keeps.settles _ reply after keeps.keeps)

settle_once : (basis : Basis) → IsTrue basis.is_told → (before : State) (transitions : List Transition) → Follow basis before transitions → SettleOnce before transitions
settle_once basis is_told before [] goes = tt
settle_once basis is_told before (transition ∷ transitions) goes =
    (does_once basis is_told before transition.action transition.after goes.0.0, settle_once basis is_told transition.after transitions goes.1)

pub doubts_once : (found : List ℕ) (lives : List Life) → AllLive found lives → AllByRecursion (λ life. SettleOnce (opened life) life.transitions) lives
doubts_once found [] all = tt
doubts_once found (life ∷ lives) all = (settle_once life.basis all.0.is_told (opened life) life.transitions all.0.goes, doubts_once life.image lives all.1)
