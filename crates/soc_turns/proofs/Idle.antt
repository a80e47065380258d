-- Which turns tell that a crash isn't due, and that what is in doubt is a change of the journal.
use Rattle.std.proofs.Common.{◌≡◌, ℕ, Bool, true, false, not, ◌&&◌, IsTrue, List, [], ◌∷◌, None, Some, refl, sym}
use Rattle.std.specs.List.{AllByRecursion}
use Rattle.soc_schema.specs.Reports.{Report}
use Rattle.soc_ledger.specs.declared.event.Event.{Event}
use Rattle.soc_ledger.specs.Due.{is_due}
use Rattle.soc_ledger.specs.Events.{is_held}
use Rattle.soc_ledger.specs.Legal.{IsLegal as AreLegal}
use Rattle.soc_ledger.proofs.Lists.{true_is_not_false}
use Rattle.soc_desk.specs.declared.desk.Command.{Command}
use Rattle.soc_desk.specs.declared.desk.Command.TheVariants as C
use Rattle.soc_desk.specs.declared.desk.Refusal.TheVariants as F
use Rattle.soc_desk.specs.declared.desk.Reply.{Reply}
use Rattle.soc_desk.specs.declared.desk.Reply.TheVariants as R
use Rattle.soc_desk.specs.Basis.{Basis}
use Rattle.soc_desk.specs.Grows.{Grows}
use Rattle.soc_desk.specs.Log.{Change, Kept, accept, ask, withdraw, report, keep, event_of}
use Rattle.soc_desk.specs.State.{State, doubted}
use Rattle.soc_book.proofs.Turnings.{unheld_idle}
use Rattle.soc_service.specs.Changes.{counts}
use Rattle.soc_service.specs.Answers.{TellsIdle}

not_true : (b : Bool) → IsTrue (not b) → b ≡ false
not_true true never = absurd (true_is_not_false (sym never))
not_true false is = refl

second_false : (a b : Bool) → IsTrue (a && not b) → b ≡ false
second_false true b is = not_true b is
second_false false b never = absurd (true_is_not_false (sym never))

kept_counts : (basis : Basis) (change : Kept) → counts (event_of basis (keep change)) ≡ true
kept_counts basis (accept crash) = refl
kept_counts basis (ask id) = refl
kept_counts basis (withdraw id) = refl
kept_counts basis (report made) = refl

all_count : (basis : Basis) (log : List Change) (doubt : List Kept) → AllByRecursion (λ event. counts event ≡ true) (doubted basis (record { log = log; doubt = doubt }))
all_count basis log [] = tt
all_count basis log (change ∷ doubt) = (kept_counts basis change, all_count basis log doubt)

-- what is in doubt are changes of the journal
pub doubt_counts : (basis : Basis) (state : State) → AllByRecursion (λ event. counts event ≡ true) (doubted basis state)
doubt_counts basis state = all_count basis state.log state.doubt

module _ (basis : Basis) (log : List Event) (legal : AreLegal log) (doubt : List Event) where
  fetch_idle : (id : List ℕ) (reply : Reply) (piece : List Event) (after : List Event) → Grows basis log doubt (C.Fetch id) reply piece after → TellsIdle log (C.Fetch id) reply
  fetch_idle id (R.Fetched None) piece after grows = second_false (is_held log id) (is_due log id) grows.0
  fetch_idle id (R.Fetched (Some raw)) piece after grows = tt
  fetch_idle id (R.Refused F.NoCrash) piece after grows = unheld_idle log id legal (not_true (is_held log id) grows.0)
  fetch_idle id (R.Refused _) piece after grows = tt
  fetch_idle id _ piece after grows = tt

  finish_idle : (processed : Report) (reply : Reply) (piece : List Event) (after : List Event) → Grows basis log doubt (C.Finish processed) reply piece after → TellsIdle log (C.Finish processed) reply
  finish_idle processed (R.Finished true) piece after grows = λ never. absurd (true_is_not_false never)
  finish_idle processed (R.Finished false) piece after grows = λ is. not_true (is_due log processed.crash.id) grows.0.0
  finish_idle processed _ piece after grows = tt

  pub tells_idle : (command : Command) (reply : Reply) (piece : List Event) (after : List Event) → Grows basis log doubt command reply piece after → TellsIdle log command reply
  tells_idle (C.Fetch id) reply piece after grows = fetch_idle id reply piece after grows
  tells_idle (C.Finish processed) reply piece after grows = finish_idle processed reply piece after grows
  tells_idle _ reply piece after grows = tt
