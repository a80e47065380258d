-- What an acknowledged change outlives.
use Rattle.std.proofs.Common.{◌≡◌, ◌⊎◌, inl, inr, ℕ, Bool, true, false, IsTrue, List, [], ◌∷◌, ◌++◌, Option, Some, None, IsSomeAnd, MatchOption, sym, ap, subst, ◌∙◌, refl, append_assoc}
use Rattle.std.specs.Prelude.{if◌then◌else◌, bytes_eq, nat_le, length, ◌||◌}
use Rattle.std.specs.Option.{option_map_or}
use Rattle.std.proofs.lemmas.List.{append-nil}
use Rattle.std.proofs.lemmas.List.Elements.{filter_map-append}
use Rattle.soc_raw.specs.RawCrash.{crash_of}
use Rattle.soc_raw.specs.Record.{Crash, content_text}
use Rattle.soc_raw.specs.declared.raw_crash.RawCrash.{RawCrash}
use Rattle.soc_schema.specs.declared.caller.Caller.{Caller}
use Rattle.soc_schema.specs.declared.permission.Permission.{Permission}
use Rattle.soc_edge.specs.Disk.{DiskTold, GoesOn, LeavesOnly}
use Rattle.soc_edge.proofs.Disks.{GoesOn-append, LeavesOnly-append, LeavesOnly-weaker}
use Rattle.soc_ledger.specs.Due.{is_due, is_due_at_once}
use Rattle.soc_ledger.specs.Events.{accepted_ids, was_withdrawn}
use Rattle.soc_ledger.specs.Reported.{has_report}
use Rattle.soc_desk.specs.declared.desk.Command.{Command}
use Rattle.soc_desk.specs.declared.desk.Command.TheVariants as C
use Rattle.soc_desk.specs.declared.desk.Receipt.{Receipt}
use Rattle.soc_desk.specs.declared.desk.Reply.{Reply}
use Rattle.soc_desk.specs.declared.desk.Reply.TheVariants as R
use Rattle.soc_desk.specs.declared.desk.Refusal.{Refusal}
use Rattle.soc_desk.specs.declared.desk.Refusal.TheVariants as F
use Rattle.soc_desk.specs.Asks.{Asks}
use Rattle.soc_desk.specs.Basis.{Basis}
use Rattle.soc_desk.specs.Decisions.{Decision, accepting, answers, appends, decide, decide_new, decide_priority, decide_repeated, lacked}
use Rattle.soc_desk.specs.Desk.{Decides, FailsMend, FailsRead, IfElse, Refuses, SettlesAndDecides, StepWriting}
use Rattle.soc_desk.specs.Laws.{Acknowledges, HasAll, Lasts}
use Rattle.soc_desk.specs.Log.{Change, Kept, ask, withdraw, events, keep, raw_of}
use Rattle.soc_desk.specs.State.{Allowed, StandsFor, State, has_room, kept_in, kept_of, settled}
use Rattle.soc_desk.specs.View.{is_in, view_of}

-- ---- images

has_more : (log piece : List Change) (more : List Kept) (image : List ℕ) → StandsFor image (kept_of (log ++ piece) ++ more) → HasAll (kept_of log) image
has_more log piece more image stands = (
  kept_of piece ++ more,
  subst (λ (k : List Kept). StandsFor image k) (ap (λ (k : List Kept). k ++ more) (filter_map-append kept_in log piece) ∙ append_assoc (kept_of log) (kept_of piece) more) stands,
)

has_allowed : (log piece : List Change) (state : State) → state.log ≡ log ++ piece → (image : List ℕ) → Allowed state image → HasAll (kept_of log) image
has_allowed log piece state behind image (inl stands) =
    has_more log piece [] image (subst (λ (k : List Kept). StandsFor image k) (ap kept_of behind ∙ sym (append-nil (kept_of (log ++ piece)))) stands)
has_allowed log piece state behind image (inr stands) =
    has_more log piece state.doubt image (subst (λ (l : List Change). StandsFor image (kept_of l ++ state.doubt)) behind stands)

pub asked_lasts : (basis : Basis) (before after : State) (command : Command) (receipt : Receipt) (disk disk' : DiskTold) → IsTrue basis.is_told → Asks basis before disk command receipt after disk' → Lasts before disk after disk'
asked_lasts basis before after command receipt disk disk' is_told asks = record {
  more = asks.gains.piece;
  behind = asks.gains.behind;
  goes_on = asks.goes_on;
  leaves = LeavesOnly-weaker disk disk' (λ image. Allowed before image ⊎ Allowed after image) (HasAll (kept_of before.log)) each (asks.survives is_told);
} where
  each : (image : List ℕ) → Allowed before image ⊎ Allowed after image → HasAll (kept_of before.log) image
  each image (inl allowed) = has_allowed before.log [] before (sym (append-nil before.log)) image allowed
  each image (inr allowed) = has_allowed before.log asks.gains.piece after asks.gains.behind image allowed

pub lasts_on : (first second third : State) (disk disk' disk'' : DiskTold) → Lasts first disk second disk' → Lasts second disk' third disk'' → Lasts first disk third disk''
lasts_on first second third disk disk' disk'' here later = record {
  more = here.more ++ later.more;
  behind = later.behind ∙ (ap (λ (l : List Change). l ++ later.more) here.behind ∙ append_assoc first.log here.more later.more);
  goes_on = GoesOn-append disk disk' disk'' here.goes_on later.goes_on;
  leaves = LeavesOnly-append disk disk' disk'' (HasAll (kept_of first.log)) here.goes_on later.goes_on here.leaves
      (LeavesOnly-weaker disk' disk'' (HasAll (kept_of second.log)) (HasAll (kept_of first.log)) each later.leaves);
} where
  each : (image : List ℕ) → HasAll (kept_of second.log) image → HasAll (kept_of first.log) image
  each image (more, stands) = has_more first.log here.more more image (subst (λ (l : List Change). StandsFor image (kept_of l ++ more)) here.behind stands)

-- ---- acknowledged changes

abbrev IsLast : Kept → State → Type 0
IsLast change after = (log : List Change) × (after.log ≡ log ++ keep change ∷ [])

either_way : (P : Decision → Type 0) (b : Bool) (x y : Decision) → P x → P y → P (if b then x else y)
either_way P true x y first second = first
either_way P false x y first second = second

some_or_none : (P : Decision → Type 0) (held : Option Crash) (f : Crash → Decision) (y : Decision) → ((x : Crash) → P (f x)) → P y → P (option_map_or f held y)
some_or_none P None f y each none = none
some_or_none P (Some x) f y each none = each x

module _ (basis : Basis) (before : State) (command : Command) (reply : Reply) (after : State) (plain : (refusal : Refusal) → reply ≡ R.Refused refusal → ⊥) (change : Kept) where
  -- what a decision comes to
  abbrev Comes : List Change → Decision → Type 0
  Comes log decision = Decides basis log decision reply after → IsLast change after

  answered : (log : List Change) (said : Reply) → (reply ≡ said → ⊥) → Comes log (answers said)
  answered log said other decides = absurd (other decides.0)

  refused : (log : List Change) (refusal : Refusal) → Comes log (answers (R.Refused refusal))
  refused log refusal = answered log (R.Refused refusal) (plain refusal)

  written_at : (log : List Change) (written : Reply) (b : Bool)
      → IfElse b (((reply ≡ written) × (after ≡ settled (log ++ keep change ∷ []))) ⊎ ((reply ≡ R.Refused F.StoreFault) × (after ≡ record { log = log; doubt = change ∷ [] })))
      ((reply ≡ R.Refused F.JournalFull) × (after ≡ settled log)) → IsLast change after
  written_at log written true (inl (said, same)) = (log, ap (λ (s : State). s.log) same)
  written_at log written true (inr (said, same)) = absurd (plain F.StoreFault said)
  written_at log written false (said, same) = absurd (plain F.JournalFull said)

  appended : (log : List Change) (written : Reply) → Comes log (appends change written)
  appended log written decides = written_at log written (has_room basis log change) decides

  seen : (log : List Change) (b : Bool) (decision : Decision) → Comes log decision → Comes log (if b then decision else answers (R.Refused F.NoCrash))
  seen log b decision comes = either_way (Comes log) b decision (answers (R.Refused F.NoCrash)) comes (refused log F.NoCrash)

  permitted : (P : Type 0) (wants : Option Permission) → MatchOption wants P (λ name. Refuses before (F.NoPermission name) reply after) → P
  permitted P None step = step
  permitted P (Some name) (said, same) = absurd (plain (F.NoPermission name) said)

  -- a step that wasn't refused has decided
  decided : StepWriting basis before command reply after
      → ((log : List Change) → IsSomeAnd (decide basis log command) (λ decision. Decides basis log decision reply after) ⊎ FailsRead basis log command reply after → IsLast change after) → IsLast change after
  decided step comes = decided_by (permitted _ (lacked command) step) where
    decided_by : Refuses before F.NoMemory reply after ⊎ (FailsMend before reply after ⊎ SettlesAndDecides basis before command reply after) → IsLast change after
    decided_by (inl (said, same)) = absurd (plain F.NoMemory said)
    decided_by (inr (inl (some, fails))) = absurd (plain F.StoreFault fails.0)
    decided_by (inr (inr settles)) = comes settles.log settles.decides

stored_refused : (id : List ℕ) (due : Bool) (refusal : Refusal) → R.Stored id due ≡ R.Refused refusal → ⊥
stored_refused id due refusal is = cc

stored_repeated : (id other : List ℕ) (due : Bool) → R.Stored id due ≡ R.Repeated other → ⊥
stored_repeated id other due is = cc

asked_refused : (asked due : Bool) (refusal : Refusal) → R.Asked asked due ≡ R.Refused refusal → ⊥
asked_refused asked due refusal is = cc

asked_before : (due : Bool) → R.Asked true due ≡ R.Asked false false → ⊥
asked_before due is = cc

withdrawn_refused : (refusal : Refusal) → R.Withdrawn ≡ R.Refused refusal → ⊥
withdrawn_refused refusal is = cc

module _ (basis : Basis) (before after : State) where
  module _ (raw : RawCrash) (id : List ℕ) (due : Bool) where
    abbrev crash : Crash
    crash = crash_of raw

    abbrev Stores : List Change → Decision → Type 0
    Stores log decision = Comes basis before (C.Submit raw) (R.Stored id due) after (stored_refused id due) (accepting crash) log decision

    not_stored : (log : List Change) (refusal : Refusal) → Stores log (answers (R.Refused refusal))
    not_stored log refusal = refused basis before (C.Submit raw) (R.Stored id due) after (stored_refused id due) (accepting crash) log refusal

    repeated : (log : List Change) (held : Crash) → Stores log (decide_repeated crash held)
    repeated log held = either_way (Stores log) (bytes_eq (content_text held) (content_text crash)) (answers (R.Repeated crash.id)) (answers (R.Refused (F.OtherContent crash.id)))
        (answered basis before (C.Submit raw) (R.Stored id due) after (stored_refused id due) (accepting crash) log (R.Repeated crash.id) (stored_repeated id crash.id due)) (not_stored log (F.OtherContent crash.id))

    new : (log : List Change) → Stores log (decide_new basis log crash)
    new log = either_way (Stores log) (nat_le basis.crashes (length (accepted_ids (events basis log)))) (answers (R.Refused F.TooManyCrashes)) (appends (accepting crash) (R.Stored crash.id (is_due_at_once crash.id)))
        (not_stored log F.TooManyCrashes) (appended basis before (C.Submit raw) (R.Stored id due) after (stored_refused id due) (accepting crash) log (R.Stored crash.id (is_due_at_once crash.id)))

    stores_by : (log : List Change) → IsSomeAnd (decide basis log (C.Submit raw)) (λ decision. Decides basis log decision (R.Stored id due) after) ⊎ FailsRead basis log (C.Submit raw) (R.Stored id due) after → IsLast (accepting crash) after
    stores_by log (inl decides) =
        either_way (Stores log) (was_withdrawn (events basis log) crash.id) (answers (R.Refused (F.Withdrawn crash.id))) (option_map_or (decide_repeated crash) (raw_of log crash.id) (decide_new basis log crash))
        (not_stored log (F.Withdrawn crash.id)) (some_or_none (Stores log) (raw_of log crash.id) (decide_repeated crash) (decide_new basis log crash) (repeated log) (new log)) decides
    stores_by log (inr fails) = absurd (stored_refused id due F.StoreFault fails.1)

    stores : StepWriting basis before (C.Submit raw) (R.Stored id due) after → IsLast (accepting crash) after
    stores step = decided basis before (C.Submit raw) (R.Stored id due) after (stored_refused id due) (accepting crash) step stores_by

  module _ (caller : Caller) (id : List ℕ) (due : Bool) where
    abbrev Prioritises : List Change → Decision → Type 0
    Prioritises log decision = Comes basis before (C.Priority caller id) (R.Asked true due) after (asked_refused true due) (ask id) log decision

    prioritises_by : (log : List Change) → IsSomeAnd (decide basis log (C.Priority caller id)) (λ decision. Decides basis log decision (R.Asked true due) after) ⊎ FailsRead basis log (C.Priority caller id) (R.Asked true due) after → IsLast (ask id) after
    prioritises_by log (inl decides) =
        seen basis before (C.Priority caller id) (R.Asked true due) after (asked_refused true due) (ask id) log (is_in (view_of basis log caller) id) (decide_priority basis log id)
        (either_way (Prioritises log) (is_due (events basis log) id || has_report (events basis log) id) (answers (R.Asked false false)) (appends (ask id) (R.Asked true true))
        (answered basis before (C.Priority caller id) (R.Asked true due) after (asked_refused true due) (ask id) log (R.Asked false false) (asked_before due))
        (appended basis before (C.Priority caller id) (R.Asked true due) after (asked_refused true due) (ask id) log (R.Asked true true))) decides
    prioritises_by log (inr fails) = absurd fails

    prioritises : StepWriting basis before (C.Priority caller id) (R.Asked true due) after → IsLast (ask id) after
    prioritises step = decided basis before (C.Priority caller id) (R.Asked true due) after (asked_refused true due) (ask id) step prioritises_by

  reprocesses : (caller : Caller) (id : List ℕ) (asked due : Bool) → StepWriting basis before (C.Reprocess caller id) (R.Asked asked due) after → IsLast (ask id) after
  reprocesses caller id asked due step = decided basis before (C.Reprocess caller id) (R.Asked asked due) after (asked_refused asked due) (ask id) step by where
    by : (log : List Change) → IsSomeAnd (decide basis log (C.Reprocess caller id)) (λ decision. Decides basis log decision (R.Asked asked due) after) ⊎ FailsRead basis log (C.Reprocess caller id) (R.Asked asked due) after → IsLast (ask id) after
    by log (inl decides) =
        seen basis before (C.Reprocess caller id) (R.Asked asked due) after (asked_refused asked due) (ask id) log (is_in (view_of basis log caller) id) (appends (ask id) (R.Asked true true))
        (appended basis before (C.Reprocess caller id) (R.Asked asked due) after (asked_refused asked due) (ask id) log (R.Asked true true)) decides
    by log (inr fails) = absurd fails

  withdraws : (caller : Caller) (id : List ℕ) → StepWriting basis before (C.Withdraw caller id) R.Withdrawn after → IsLast (withdraw id) after
  withdraws caller id step = decided basis before (C.Withdraw caller id) R.Withdrawn after withdrawn_refused (withdraw id) step by where
    by : (log : List Change) → IsSomeAnd (decide basis log (C.Withdraw caller id)) (λ decision. Decides basis log decision R.Withdrawn after) ⊎ FailsRead basis log (C.Withdraw caller id) R.Withdrawn after → IsLast (withdraw id) after
    by log (inl decides) =
        seen basis before (C.Withdraw caller id) R.Withdrawn after withdrawn_refused (withdraw id) log (is_in (view_of basis log caller) id) (appends (withdraw id) R.Withdrawn)
        (appended basis before (C.Withdraw caller id) R.Withdrawn after withdrawn_refused (withdraw id) log R.Withdrawn) decides
    by log (inr fails) = absurd fails

pub acknowledges : Acknowledges
acknowledges basis before (C.Submit raw) (R.Stored id due) after step = stores basis before after raw id due step
acknowledges basis before (C.Priority caller id) (R.Asked true due) after step = prioritises basis before after caller id due step
acknowledges basis before (C.Reprocess caller id) (R.Asked asked due) after step = reprocesses basis before after caller id asked due step
acknowledges basis before (C.Withdraw caller id) R.Withdrawn after step = withdraws basis before after caller id step
acknowledges basis before _ _ after step = tt
