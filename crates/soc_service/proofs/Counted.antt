-- How many changes of a turn's piece are kept.
use Rattle.std.proofs.Common.{◌≡◌, inl, inr, ℕ, suc, ◌+◌, ◌-◌, ◌≤◌, ◌<◌, ◌^◌, Bool, true, false, List, [], ◌∷◌, ◌++◌, length, map, take, None, Some, refl, sym, ◌∙◌, ap, subst, arith}
use Rattle.std.specs.Prelude.{if◌then◌else◌}
use Rattle.std.specs.Coded.{Coded-set, coded_ℕ}
use Rattle.std.specs.List.{AllByRecursion}
use Rattle.std.proofs.lemmas.List.{length-map}
use Rattle.soc_schema.specs.declared.caller.Caller.{Caller}
use Rattle.soc_hall.specs.Seats.{seen_of}
use Rattle.soc_ledger.specs.declared.event.Event.{Event}
use Rattle.soc_ledger.specs.declared.event.Event.TheVariants as E
use Rattle.soc_ledger.specs.Due.{due_ids}
use Rattle.soc_desk.specs.declared.desk.Command.{Command}
use Rattle.soc_desk.specs.declared.desk.Command.TheVariants as C
use Rattle.soc_desk.specs.declared.desk.Receipt.{Receipt}
use Rattle.soc_desk.specs.declared.desk.Refusal.{Refusal}
use Rattle.soc_desk.specs.declared.desk.Refusal.TheVariants as F
use Rattle.soc_desk.specs.declared.desk.Reply.{Reply}
use Rattle.soc_desk.specs.declared.desk.Reply.TheVariants as R
use Rattle.soc_desk.specs.Basis.{Basis}
use Rattle.soc_desk.specs.Grows.{BehindDoubt, DrainFails, Drains, Finishes, Grows, Prioritises, Reprocesses, Stops, Submits, Turns, Withdraws, Writes}
use Rattle.soc_service.specs.Changes.{counts, events_in, kept_in}
use Rattle.soc_service.specs.Due.{keeps_all}
use Rattle.soc_service.specs.Answers.{TellsAnswers}
use Rattle.soc_service.specs.Turns.{Knows, Shared, Turn}
use Rattle.soc_service.proofs.Answered.{log_grows, seen_before, short, told}

-- each of these events is kept
abbrev AreKept : List Event → Type 0
AreKept events = kept_in events ≡ length events

more_kept : (event : Event) (events : List Event) → counts event ≡ true → AreKept events → AreKept (event ∷ events)
more_kept event events is all = ap (λ b. if b then suc (kept_in events) else kept_in events) is ∙ ap suc all

submits_kept : (basis : Basis) (id : List ℕ) (reply : Reply) (after : List Event) (log own : List Event) → Submits basis id reply after log own → AreKept own
submits_kept basis id (R.Stored other due) after log own is = subst AreKept (sym is.2) refl
submits_kept basis id (R.Repeated other) after log own is = subst AreKept (sym is.1) refl
submits_kept basis id (R.Refused refusal) after log own is = subst AreKept (sym is.1) refl
submits_kept basis id _ after log own never = absurd never

prioritises_kept : (caller : Caller) (id : List ℕ) (reply : Reply) (after : List Event) (log own : List Event) → Prioritises caller id reply after log own → AreKept own
prioritises_kept caller id (R.Asked true due) after log own is = subst AreKept (sym is.2) refl
prioritises_kept caller id (R.Asked false due) after log own is = subst AreKept (sym is.2) refl
prioritises_kept caller id (R.Refused refusal) after log own is = subst AreKept (sym is.1) refl
prioritises_kept caller id _ after log own never = absurd never

reprocesses_kept : (caller : Caller) (id : List ℕ) (reply : Reply) (after : List Event) (log own : List Event) → Reprocesses caller id reply after log own → AreKept own
reprocesses_kept caller id (R.Asked asked due) after log own is = subst AreKept (sym is.1) refl
reprocesses_kept caller id (R.Refused refusal) after log own is = subst AreKept (sym is.1) refl
reprocesses_kept caller id _ after log own never = absurd never

withdraws_kept : (caller : Caller) (id : List ℕ) (reply : Reply) (after : List Event) (log own : List Event) → Withdraws caller id reply after log own → AreKept own
withdraws_kept caller id R.Withdrawn after log own is = subst AreKept (sym is.1) refl
withdraws_kept caller id (R.Refused refusal) after log own is = subst AreKept (sym is.1) refl
withdraws_kept caller id _ after log own never = absurd never

all_kept : (events own : List Event) → AllByRecursion (λ event. counts event ≡ true) events → AreKept own → AreKept (events ++ own)
all_kept [] own journal kept = kept
all_kept (event ∷ events) own journal kept = more_kept event (events ++ own) journal.0 (all_kept events own journal.1 kept)

behind_kept : (log : List Event) (doubt : List Event) (piece : List Event) (Adds : List Event → List Event → Type 0)
    → AllByRecursion (λ event. counts event ≡ true) doubt → ((l own : List Event) → Adds l own → AreKept own) → BehindDoubt log doubt piece Adds → AreKept piece
behind_kept log [] piece Adds journal all adds = all log piece adds
behind_kept log (event ∷ events) piece Adds journal all (inl adds) = all log piece adds
behind_kept log (event ∷ events) piece Adds journal all (inr adds) = subst AreKept (sym adds.1) (all_kept (event ∷ events) adds.0 journal (all (log ++ event ∷ events) adds.0 adds.2))

writes_kept : (log : List Event) (doubt : List Event) (piece : List Event) (reply : Reply) (after : List Event) (Adds : List Event → List Event → Type 0)
    → AllByRecursion (λ event. counts event ≡ true) doubt → ((l own : List Event) → Adds l own → AreKept own) → Writes log doubt piece reply after Adds → AreKept piece
writes_kept log doubt piece (R.Refused F.NoMemory) after Adds journal all is = subst AreKept (sym is.0) refl
writes_kept log doubt piece (R.Refused (F.NoPermission name)) after Adds journal all is = subst AreKept (sym is.0) refl
writes_kept log doubt piece (R.Refused F.StoreFault) after Adds journal all (inl is) = subst AreKept (sym is.1.0) refl
writes_kept log doubt piece (R.Refused F.StoreFault) after Adds journal all (inr adds) = behind_kept log doubt piece Adds journal all adds
writes_kept log doubt piece (R.Refused _) after Adds journal all adds = behind_kept log doubt piece Adds journal all adds
writes_kept log doubt piece _ after Adds journal all adds = behind_kept log doubt piece Adds journal all adds

done_none : (ids : List (List ℕ)) → kept_in (map E.Done ids) ≡ 0
done_none [] = refl
done_none (id ∷ ids) = done_none ids

turns_none : (log : List Event) (reply : Reply) (piece : List Event) → Turns log reply piece → kept_in piece ≡ 0
turns_none log (R.Turned None) piece is = ap (λ l. kept_in l) is.1
turns_none log (R.Turned (Some id)) piece is = ap (λ l. kept_in l) is.1
turns_none log (R.Refused refusal) piece is = ap (λ l. kept_in l) is.1
turns_none log _ piece never = absurd never

drain_fails_none : (log : List Event) (refusal : Refusal) (piece : List Event) → DrainFails log refusal piece → kept_in piece ≡ 0
drain_fails_none log (F.NoPermission name) piece is = ap (λ l. kept_in l) is
drain_fails_none log (F.Altered id) piece is = ap (λ l. kept_in l) is.2 ∙ done_none (take is.0 (due_ids log))
drain_fails_none log _ piece is = ap (λ l. kept_in l) is.2 ∙ done_none (take is.0 (due_ids log))

drains_none : (log : List Event) (reply : Reply) (piece : List Event) → Drains log reply piece → kept_in piece ≡ 0
drains_none log (R.Drained count) piece is = ap (λ l. kept_in l) is.1 ∙ done_none (due_ids log)
drains_none log (R.Refused refusal) piece is = drain_fails_none log refusal piece is
drains_none log _ piece never = absurd never

finishes_none : (log : List Event) (id : List ℕ) (reply : Reply) (piece : List Event) → Finishes log id reply piece → kept_in piece ≡ 0
finishes_none log id (R.Finished true) piece is = ap (λ l. kept_in l) is.1
finishes_none log id (R.Finished false) piece is = ap (λ l. kept_in l) is.1
finishes_none log id (R.Refused refusal) piece is = ap (λ l. kept_in l) is
finishes_none log id _ piece never = absurd never

stops_kept : (log : List Event) (reply : Reply) (piece : List Event) → Stops log reply piece → AreKept piece
stops_kept log R.Stopping piece (inl is) = subst AreKept (sym is.1) refl
stops_kept log R.Stopping piece (inr is) = subst AreKept (sym is.1) refl
stops_kept log (R.Refused refusal) piece is = subst AreKept (sym is) refl
stops_kept log _ piece never = absurd never

-- Of the piece of a command each change is kept or none.
kept_by : (basis : Basis) (log : List Event) (doubt : List Event) (command : Command) (reply : Reply) (piece : List Event) (after : List Event)
    → AllByRecursion (λ event. counts event ≡ true) doubt → Grows basis log doubt command reply piece after → kept_in piece ≡ (if keeps_all command then length piece else 0)
kept_by basis log doubt (C.Submit raw) reply piece after journal grows = writes_kept log doubt piece reply after (Submits basis raw.id reply after) journal (submits_kept basis raw.id reply after) grows
kept_by basis log doubt (C.Priority caller id) reply piece after journal grows = writes_kept log doubt piece reply after (Prioritises caller id reply after) journal (prioritises_kept caller id reply after) grows
kept_by basis log doubt (C.Reprocess caller id) reply piece after journal grows = writes_kept log doubt piece reply after (Reprocesses caller id reply after) journal (reprocesses_kept caller id reply after) grows
kept_by basis log doubt (C.Withdraw caller id) reply piece after journal grows = writes_kept log doubt piece reply after (Withdraws caller id reply after) journal (withdraws_kept caller id reply after) grows
kept_by basis log doubt (C.Turn caller) reply piece after journal grows = turns_none log reply piece grows.0
kept_by basis log doubt (C.Drain caller) reply piece after journal grows = drains_none log reply piece grows.0
kept_by basis log doubt (C.Stop caller) reply piece after journal grows = stops_kept log reply piece grows.0
kept_by basis log doubt (C.Finish made) reply piece after journal grows = finishes_none log made.crash.id reply piece grows.0
kept_by basis log doubt (C.Raw caller id) reply piece after journal grows = subst AreKept (sym grows.1.0) refl
kept_by basis log doubt (C.Processed caller id) reply piece after journal grows = subst AreKept (sym grows.1.0) refl
kept_by basis log doubt (C.Dump caller id name) reply piece after journal grows = subst AreKept (sym grows.1.0) refl
kept_by basis log doubt (C.Fetch id) reply piece after journal grows = subst AreKept (sym grows.1.0) refl
kept_by basis log doubt (C.Search query) reply piece after journal grows = subst AreKept (sym grows.0) refl
kept_by basis log doubt (C.Tops query) reply piece after journal grows = subst AreKept (sym grows.0) refl
kept_by basis log doubt (C.Stack caller id) reply piece after journal grows = subst AreKept (sym grows.1.0) refl
kept_by basis log doubt (C.Counts caller) reply piece after journal grows = subst AreKept (sym grows.1.0) refl

at_most : (b : Bool) (n : ℕ) → (if b then n else 0) ≤ n
at_most true n = omega arith
at_most false n = omega arith

module _ {T A B : Type 0} (desk : Shared T A B) (command_of : A → Command) (desk_of : B → Basis) (tells : TellsAnswers command_of desk_of desk.answers) {v w : Knows A B} {command : Command} {receipt : Receipt}
    (turn : Turn desk command_of v command receipt w) where
  pub kept_in_turn : kept_in (events_in turn.asked.piece) ≡ (if keeps_all command then length turn.asked.piece else 0)
  kept_in_turn =
      told desk command_of desk_of tells turn (λ piece. kept_in (events_in piece) ≡ (if keeps_all command then length piece else 0)) (Coded-set coded_ℕ _ _)
      (λ basis is a. kept_by (desk_of basis) _ a.doubt command receipt.reply (events_in a.piece) a.left a.of_journal a.grows
      ∙ ap (λ n. if keeps_all command then n else 0) (length-map a.piece (λ change. change.event)))

  pub rises : turn.start ≤ turn.front
  rises = let a = turn.asked.start_is in let b = turn.asked.front_is in let c = log_grows desk command_of desk_of tells turn in omega arith

  grown : turn.front - turn.start ≡ length turn.asked.piece
  grown = let a = turn.asked.start_is in let b = turn.asked.front_is in let c = log_grows desk command_of desk_of tells turn in omega arith

  -- what a desk counts is how many changes of the piece are kept
  pub added_is : (added : ℕ) → added ≡ (if keeps_all command then turn.front - turn.start else 0) → added ≡ kept_in (events_in turn.asked.piece)
  added_is added is = is ∙ (ap (λ n. if keeps_all command then n else 0) grown ∙ sym kept_in_turn)

  -- the count stays below the length of the log
  pub stays_below : (kept added : ℕ) → kept ≤ length (seen_of v) → added ≡ (if keeps_all command then turn.front - turn.start else 0) → kept + added ≤ length (seen_of w)
  stays_below kept added few is =
      let a = seen_before desk command_of desk_of tells turn in
      let b = log_grows desk command_of desk_of tells turn in
      let c = at_most (keeps_all command) (turn.front - turn.start) in
      let d = grown in
      omega arith

  pub fits : (kept added : ℕ) → kept ≤ length (seen_of v) → added ≡ (if keeps_all command then turn.front - turn.start else 0) → kept + added < 2 ^ 64
  fits kept added few is = let a = stays_below kept added few is in let b = short desk command_of desk_of tells turn in omega arith

-- what was added, by the test of the command
pub by_keeps : (keeps : Bool) (command : Command) (added n : ℕ) → keeps ≡ keeps_all command → added ≡ (if keeps then n else 0) → added ≡ (if keeps_all command then n else 0)
by_keeps keeps command added n tested is = is ∙ ap (λ b. if b then n else 0) tested
