-- No turn keeps a report: only the last sweep does.
use Rattle.std.proofs.Common.{◌≡◌, inl, inr, ℕ, true, false, List, [], ◌∷◌, ◌++◌, map, take, None, Some, refl, sym, ap, ◌∙◌, subst}
use Rattle.std.proofs.lemmas.List.{map-append}
use Rattle.soc_ledger.specs.declared.event.Event.{Event}
use Rattle.soc_ledger.specs.declared.event.Event.TheVariants as E
use Rattle.soc_ledger.specs.Due.{due_ids}
use Rattle.soc_schema.specs.declared.caller.Caller.{Caller}
use Rattle.soc_desk.specs.declared.desk.Command.{Command}
use Rattle.soc_desk.specs.declared.desk.Command.TheVariants as C
use Rattle.soc_desk.specs.declared.desk.Refusal.{Refusal}
use Rattle.soc_desk.specs.declared.desk.Refusal.TheVariants as F
use Rattle.soc_desk.specs.declared.desk.Reply.{Reply}
use Rattle.soc_desk.specs.declared.desk.Receipt.{Receipt}
use Rattle.soc_desk.specs.declared.desk.Reply.TheVariants as R
use Rattle.soc_desk.specs.Basis.{Basis}
use Rattle.soc_desk.specs.Grows.{BehindDoubt, ChangeRefused, DrainFails, Drains, Finishes, Grows, Prioritises, PriorityRefused, Reprocesses, StaysInDoubt, Stops, SubmitRefused, Submits, Turns, Withdraws, Writes}
use Rattle.soc_desk.specs.Log.{Change, event_of, events}
use Rattle.soc_desk.specs.Runs.{Answers, DeskAt}
use Rattle.soc_desk.specs.State.{doubted}
use Rattle.soc_turns.specs.Runs.{RunsTurns}
use Rattle.soc_serve.specs.Storm.{AreNoReports, is_report}

none_both : (first more : List Event) → AreNoReports first → AreNoReports more → AreNoReports (first ++ more)
none_both [] more none others = others
none_both (event ∷ first) more none others = (none.0, none_both first more none.1 others)

-- neither what is added nor what is in doubt has a report
abbrev NoReports : List Event → List Event → Type 0
NoReports piece after = AreNoReports piece × AreNoReports after

are : (events others : List Event) → events ≡ others → AreNoReports others → AreNoReports events
are events others is none = subst AreNoReports (sym is) none

-- ---- commands that write

submit_refused : (basis : Basis) (id : List ℕ) (refusal : Refusal) (after log : List Event) → SubmitRefused basis id refusal after log → AreNoReports after
submit_refused basis id (F.OtherContent other) after log says = are after [] says.1 tt
submit_refused basis id (F.Withdrawn other) after log says = are after [] says.1 tt
submit_refused basis id F.TooManyCrashes after log says = are after [] says.2 tt
submit_refused basis id F.JournalFull after log says = are after [] says.2 tt
submit_refused basis id F.StoreFault after log (inl says) = are after (E.Accepted id ∷ []) says.2 (refl, tt)
submit_refused basis id F.StoreFault after log (inr says) = are after [] says.1 tt
submit_refused basis id _ after log never = absurd never

submits : (basis : Basis) (id : List ℕ) (reply : Reply) (after log own : List Event) → Submits basis id reply after log own → NoReports own after
submits basis id (R.Stored other due) after log own says = (are own (E.Accepted id ∷ []) says.2 (refl, tt), are after [] says.3 tt)
submits basis id (R.Repeated other) after log own says = (are own [] says.1 tt, are after [] says.2 tt)
submits basis id (R.Refused refusal) after log own says = (are own [] says.1 tt, submit_refused basis id refusal after log says.0)
submits basis id _ after log own never = absurd never

priority_refused : (caller : Caller) (id : List ℕ) (refusal : Refusal) (after log : List Event) → PriorityRefused caller id refusal after log → AreNoReports after
priority_refused caller id F.NoCrash after log says = are after [] says.1 tt
priority_refused caller id F.JournalFull after log says = are after [] says.2 tt
priority_refused caller id F.StoreFault after log says = are after (E.Asked id ∷ []) says.2 (refl, tt)
priority_refused caller id _ after log never = absurd never

prioritises : (caller : Caller) (id : List ℕ) (reply : Reply) (after log own : List Event) → Prioritises caller id reply after log own → NoReports own after
prioritises caller id (R.Asked true due) after log own says = (are own (E.Asked id ∷ []) says.2 (refl, tt), are after [] says.3 tt)
prioritises caller id (R.Asked false due) after log own says = (are own [] says.2 tt, are after [] says.3 tt)
prioritises caller id (R.Refused refusal) after log own says = (are own [] says.1 tt, priority_refused caller id refusal after log says.0)
prioritises caller id _ after log own never = absurd never

change_refused : (event : Event) → is_report event ≡ false → (caller : Caller) (id : List ℕ) (refusal : Refusal) (after log : List Event) → ChangeRefused event caller id refusal after log → AreNoReports after
change_refused event none caller id F.NoCrash after log says = are after [] says.1 tt
change_refused event none caller id F.JournalFull after log says = are after [] says.1 tt
change_refused event none caller id F.StoreFault after log says = are after (event ∷ []) says.1 (none, tt)
change_refused event none caller id _ after log never = absurd never

reprocesses : (caller : Caller) (id : List ℕ) (reply : Reply) (after log own : List Event) → Reprocesses caller id reply after log own → NoReports own after
reprocesses caller id (R.Asked asked due) after log own says = (are own (E.Asked id ∷ []) says.1 (refl, tt), are after [] says.2 tt)
reprocesses caller id (R.Refused refusal) after log own says = (are own [] says.1 tt, change_refused (E.Asked id) refl caller id refusal after log says.0)
reprocesses caller id _ after log own never = absurd never

withdraws : (caller : Caller) (id : List ℕ) (reply : Reply) (after log own : List Event) → Withdraws caller id reply after log own → NoReports own after
withdraws caller id R.Withdrawn after log own says = (are own (E.Withdrawn id ∷ []) says.1 (refl, tt), are after [] says.2 tt)
withdraws caller id (R.Refused refusal) after log own says = (are own [] says.1 tt, change_refused (E.Withdrawn id) refl caller id refusal after log says.0)
withdraws caller id _ after log own never = absurd never

stays : (doubt piece after : List Event) → AreNoReports doubt → StaysInDoubt doubt piece after → NoReports piece after
stays doubt piece after none says = (are piece [] says.0 tt, are after doubt says.1 none)

module _ (log : List Event) (piece after : List Event) (Adds : List Event → List Event → Type 0) (adds : (l own : List Event) → Adds l own → NoReports own after) where
  behind : (doubt : List Event) → AreNoReports doubt → BehindDoubt log doubt piece Adds → NoReports piece after
  behind [] none says = adds log piece says
  behind (first ∷ more) none (inl says) = adds log piece says
  behind (first ∷ more) none (inr says) =
      let own = adds (log ++ first ∷ more) says.0 says.2 in
      (are piece ((first ∷ more) ++ says.0) says.1 (none_both (first ∷ more) says.0 none own.0), own.1)

  writes_refused : (refusal : Refusal) (doubt : List Event) → AreNoReports doubt → Writes log doubt piece (R.Refused refusal) after Adds → NoReports piece after
  writes_refused F.NoMemory doubt none says = stays doubt piece after none says
  writes_refused (F.NoPermission name) doubt none says = stays doubt piece after none says
  writes_refused F.StoreFault doubt none (inl says) = stays doubt piece after none says.1
  writes_refused F.StoreFault doubt none (inr says) = behind doubt none says
  writes_refused _ doubt none says = behind doubt none says

  writes : (reply : Reply) (doubt : List Event) → AreNoReports doubt → Writes log doubt piece reply after Adds → NoReports piece after
  writes (R.Refused refusal) doubt none says = writes_refused refusal doubt none says
  writes _ doubt none says = behind doubt none says

-- ---- commands that process

none_done : (ids : List (List ℕ)) → AreNoReports (map E.Done ids)
none_done [] = tt
none_done (id ∷ ids) = (refl, none_done ids)

turns_none : (log : List Event) (reply : Reply) (piece : List Event) → Turns log reply piece → AreNoReports piece
turns_none log (R.Turned None) piece says = are piece [] says.1 tt
turns_none log (R.Turned (Some id)) piece says = are piece (E.Done id ∷ []) says.1 (refl, tt)
turns_none log (R.Refused refusal) piece says = are piece [] says.1 tt
turns_none log _ piece never = absurd never

drain_fails : (log : List Event) (refusal : Refusal) (piece : List Event) → DrainFails log refusal piece → AreNoReports piece
drain_fails log (F.NoPermission name) piece says = are piece [] says tt
drain_fails log (F.Altered id) piece says = are piece (map E.Done (take says.0 (due_ids log))) says.2 (none_done (take says.0 (due_ids log)))
drain_fails log _ piece says = are piece (map E.Done (take says.0 (due_ids log))) says.2 (none_done (take says.0 (due_ids log)))

drains_none : (log : List Event) (reply : Reply) (piece : List Event) → Drains log reply piece → AreNoReports piece
drains_none log (R.Drained count) piece says = are piece (map E.Done (due_ids log)) says.1 (none_done (due_ids log))
drains_none log (R.Refused refusal) piece says = drain_fails log refusal piece says
drains_none log _ piece never = absurd never

stops_none : (log : List Event) (reply : Reply) (piece : List Event) → Stops log reply piece → AreNoReports piece
stops_none log R.Stopping piece (inl says) = are piece [] says.1 tt
stops_none log R.Stopping piece (inr says) = are piece (E.Stopped ∷ []) says.1 (refl, tt)
stops_none log (R.Refused refusal) piece says = are piece [] says tt
stops_none log _ piece never = absurd never

finishes_none : (log : List Event) (id : List ℕ) (reply : Reply) (piece : List Event) → Finishes log id reply piece → AreNoReports piece
finishes_none log id (R.Finished true) piece says = are piece (E.Done id ∷ []) says.1 (refl, tt)
finishes_none log id (R.Finished false) piece says = are piece [] says.1 tt
finishes_none log id (R.Refused refusal) piece says = are piece [] says tt
finishes_none log id _ piece never = absurd never

-- ---- every command

grows_none : (basis : Basis) (log doubt : List Event) (command : Command) (reply : Reply) (piece after : List Event) → AreNoReports doubt → Grows basis log doubt command reply piece after → NoReports piece after
grows_none basis log doubt (C.Submit raw) reply piece after none says =
    writes log piece after (Submits basis raw.id reply after) (submits basis raw.id reply after) reply doubt none says
grows_none basis log doubt (C.Priority caller id) reply piece after none says =
    writes log piece after (Prioritises caller id reply after) (prioritises caller id reply after) reply doubt none says
grows_none basis log doubt (C.Reprocess caller id) reply piece after none says =
    writes log piece after (Reprocesses caller id reply after) (reprocesses caller id reply after) reply doubt none says
grows_none basis log doubt (C.Withdraw caller id) reply piece after none says =
    writes log piece after (Withdraws caller id reply after) (withdraws caller id reply after) reply doubt none says
grows_none basis log doubt (C.Turn caller) reply piece after none says = (turns_none log reply piece says.0, are after doubt says.1 none)
grows_none basis log doubt (C.Drain caller) reply piece after none says = (drains_none log reply piece says.0, are after doubt says.1 none)
grows_none basis log doubt (C.Stop caller) reply piece after none says = (stops_none log reply piece says.0, are after doubt says.1 none)
grows_none basis log doubt (C.Finish processed) reply piece after none says = (finishes_none log processed.crash.id reply piece says.0, are after doubt says.1 none)
grows_none basis log doubt (C.Raw caller id) reply piece after none says = stays doubt piece after none says.1
grows_none basis log doubt (C.Processed caller id) reply piece after none says = stays doubt piece after none says.1
grows_none basis log doubt (C.Dump caller id name) reply piece after none says = stays doubt piece after none says.1
grows_none basis log doubt (C.Stack caller id) reply piece after none says = stays doubt piece after none says.1
grows_none basis log doubt (C.Fetch id) reply piece after none says = stays doubt piece after none says.1
grows_none basis log doubt (C.Counts caller) reply piece after none says = stays doubt piece after none says.1
grows_none basis log doubt (C.Search query) reply piece after none says = stays doubt piece after none says
grows_none basis log doubt (C.Tops query) reply piece after none says = stays doubt piece after none says

-- a run from a log without reports, and nothing of one in doubt, leads to such a log
pub run_none : (basis : Basis) (left : ℕ → List ℕ → Type 0) (turns : List (Command × Receipt)) (first last : DeskAt) → RunsTurns (Answers basis left) first turns last
    → AreNoReports (events basis first.state.log) → AreNoReports (doubted basis first.state) → AreNoReports (events basis last.state.log)
run_none basis left [] first last runs log doubt = subst (λ (d : DeskAt). AreNoReports (events basis d.state.log)) (sym runs) log
run_none basis left (turn ∷ turns) first last (between, answers, runs) log doubt =
    let gains = answers.gains in
    let none = grows_none basis (events basis first.state.log) (doubted basis first.state) turn.0 turn.1.reply (events basis gains.piece) (doubted basis between.state) doubt gains.grows in
    run_none basis left turns between last runs
    (are (events basis between.state.log) (events basis first.state.log ++ events basis gains.piece)
    (ap (λ (l : List Change). events basis l) gains.behind ∙ map-append (event_of basis) first.state.log gains.piece)
    (none_both (events basis first.state.log) (events basis gains.piece) log none.0))
    none.1
