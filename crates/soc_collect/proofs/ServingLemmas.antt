-- A run of a desk that is watched is a run of the desk, and tells whether a receipt said stopped.
use Rattle.std.proofs.Common.{◌≡◌, ℕ, ◌≤◌, ◌<◌, List, [], ◌∷◌, Bool, true, false, refl, sym, ap, ◌∙◌, arith, Option, Some, None}
use Rattle.std.specs.Prelude.{◌||◌}
use Rattle.soc_base.proofs.Folk.{or_false, or_assoc}
use Rattle.soc_raw.specs.CrashId.{is_id}
use Rattle.soc_desk.specs.declared.desk.Command.{Command}
use Rattle.soc_desk.specs.declared.desk.Receipt.{Receipt}
use Rattle.soc_session.specs.declared.ending.SessionEnd.{SessionEnd}
use Rattle.soc_session.specs.Desk.{Asking, StepsDesk, Ways, says_stopped}
use Rattle.soc_session.specs.Session.{Around, Response, met, refused, RunsDesk, Serves}
use Rattle.soc_collect.specs.Serving.{any_stopped, no_crash}

pub no_crash-is_id : is_id no_crash ≡ true
unfolding is_id
no_crash-is_id = refl

pub both_false : (a b s : Bool) → s ≡ (a || b) → a ≡ false → b ≡ false → s ≡ false
both_false a b s is no_a no_b = is ∙ (ap (λ x. x || b) no_a ∙ no_b)

-- a desk that is watched: the name of the loan, the desk, and whether a receipt said stopped
module _ {V K N : Type 0} (watches : V → Command → Receipt → V → Type 0) (asks : K → Command → Receipt → K → Type 0) (name : V → N) (desk : V → K) (stopped : V → Bool)
    (each : (v : V) (command : Command) (receipt : Receipt) (w : V) → watches v command receipt w → (name w ≡ name v) × asks (desk v) command receipt (desk w) × (stopped w ≡ (stopped v || receipt.stopped))) where
  step : (v w : V) (asked : Option Asking) → StepsDesk watches v asked w
      → (name w ≡ name v) × StepsDesk asks (desk v) asked (desk w) × (stopped w ≡ (stopped v || says_stopped asked))
  step v w None same = (ap name same, ap desk same, ap stopped same ∙ sym (or_false (stopped v)))
  step v w (Some asking) did = each v asking.command asking.receipt w did

  pub run : (v : V) (responses : List Response) (w : V) → RunsDesk watches v responses w
      → (name w ≡ name v) × RunsDesk asks (desk v) responses (desk w) × (stopped w ≡ (stopped v || any_stopped responses))
  run v [] w same = (ap name same, ap desk same, ap stopped same ∙ sym (or_false (stopped v)))
  run v (met exchange ∷ responses) w runs =
      let first = step v runs.0 exchange.asked runs.1 in
      let rest = run runs.0 responses w runs.2 in (
        rest.0 ∙ first.0,
        (desk runs.0, first.1, rest.1),
        rest.2 ∙ (ap (λ s. s || any_stopped responses) first.2 ∙ or_assoc (stopped v) (says_stopped exchange.asked) (any_stopped responses)),
      )
  run v (refused error ∷ responses) w runs = run v responses w runs

  -- what is around the desk itself
  abbrev pub of_desk : Around V → Around K
  of_desk around = record { left = around.left; held = around.held; desk = desk around.desk; outlook = around.outlook }

  abbrev pub serves : (ways : Ways) (before after : Around V) (window : List ℕ) (end : SessionEnd) → Serves watches ways before after window end → Serves asks ways (of_desk before) (of_desk after) window end
  serves ways before after window end session = record {
    responses = session.responses;
    by_rules = session.by_rules;
    runs = (run before.desk session.responses after.desk session.runs).1;
    reads = session.reads;
    writes = session.writes;
    hands = session.hands;
    ends = session.ends;
  }

-- what a desk has added never falls along a run, and stays below a bound
module _ {K : Type 0} (asks : K → Command → Receipt → K → Type 0) (added : K → ℕ) (bound : ℕ)
    (each : (k : K) (command : Command) (receipt : Receipt) (l : K) → asks k command receipt l → (added k ≤ added l) × (added l < bound)) where
  step_grows : (k l : K) (asked : Option Asking) → added k < bound → StepsDesk asks k asked l → (added k ≤ added l) × (added l < bound)
  step_grows k l None small same = let is = ap added same in (omega (arith, is), omega (arith, is))
  step_grows k l (Some asking) small did = each k asking.command asking.receipt l did

  pub grows : (k : K) (responses : List Response) (l : K) → added k < bound → RunsDesk asks k responses l → (added k ≤ added l) × (added l < bound)
  grows k [] l small same = let is = ap added same in (omega (arith, is), omega (arith, is))
  grows k (met exchange ∷ responses) l small runs =
      let first = step_grows k runs.0 exchange.asked small runs.1 in
      let rest = grows runs.0 responses l first.1 runs.2 in (omega (arith, first.0, rest.0), rest.1)
  grows k (refused error ∷ responses) l small runs = grows k responses l small runs
