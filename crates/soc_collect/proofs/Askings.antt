-- What a desk was asked on a connection, and on many.
use Rattle.std.proofs.Common.{ℕ, ◌<◌, ◌≤◌, List, [], ◌∷◌, ◌++◌, Bool, Option, None, Some, refl, sym, ap, subst}
use Rattle.soc_desk.specs.declared.desk.Command.{Command}
use Rattle.soc_desk.specs.declared.desk.Command.TheVariants as C
use Rattle.soc_desk.specs.declared.desk.Receipt.{Receipt}
use Rattle.soc_session.specs.declared.ending.SessionEnd.{SessionEnd}
use Rattle.soc_session.specs.Desk.{Asking, StepsDesk, Ways}
use Rattle.soc_session.specs.Session.{Around, Response, met, refused, RunsDesk, Serves}
use Rattle.soc_collect.specs.Asked.{AsksAll, Step}
use Rattle.soc_collect.specs.Serving.{GoesOn, no_crash, ServesOne}

module _ {K : Type 0} (asks : K → Command → Receipt → K → Type 0) where
  abbrev pub AsksSome : K → K → Type 0
  AsksSome before after = (steps : List Step) × AsksAll asks before steps after

  all_append : (first then : List Step) (before between after : K) → AsksAll asks before first between → AsksAll asks between then after → AsksAll asks before (first ++ then) after
  all_append [] then before between after is more = subst (λ (k : K). AsksAll asks k then after) is more
  all_append (step ∷ steps) then before between after (next, asked, rest) more = (next, asked, all_append steps then next between after rest more)

  pub some_append : (before between after : K) → AsksSome before between → AsksSome between after → AsksSome before after
  some_append before between after first then = (first.0 ++ then.0, all_append first.0 then.0 before between after first.1 then.1)

  by_asking : (asked : Option Asking) (before after : K) → StepsDesk asks before asked after → AsksSome before after
  by_asking None before after is = ([], is)
  by_asking (Some asking) before after is = (record { command = asking.command; receipt = asking.receipt } ∷ [], (after, is, refl))

  by_run : (responses : List Response) (before after : K) → RunsDesk asks before responses after → AsksSome before after
  by_run [] before after is = ([], is)
  by_run (met exchange ∷ responses) before after (between, asked, rest) =
      some_append before between after (by_asking exchange.asked before between asked) (by_run responses between after rest)
  by_run (refused error ∷ responses) before after rest = by_run responses before after rest

  -- a session
  pub by_session : (ways : Ways) (before after : Around K) (window : List ℕ) (end : SessionEnd) → Serves asks ways before after window end → AsksSome before.desk after.desk
  by_session ways before after window end serves = by_run serves.responses before.desk after.desk serves.runs

  -- one asking
  pub by_step : (before after : K) (command : Command) (receipt : Receipt) → asks before command receipt after → AsksSome before after
  by_step before after command receipt asked = (record { command = command; receipt = receipt } ∷ [], (after, asked, refl))

  goes_on : (ways : Ways) (before after : Around K) (window : List ℕ) (receipt : Receipt) (end : Option SessionEnd) (stopped : Bool)
      → GoesOn asks ways before after window receipt end stopped → AsksSome before.desk after.desk
  goes_on ways before after window receipt None stopped unread = ([], ap (λ (a : Around K). a.desk) unread.2)
  goes_on ways before after window receipt (Some end) stopped served = by_session ways before after window end served.1

  -- one connection served
  pub by_serving : (ways : Ways) (before after : Around K) (window : List ℕ) (end : Option SessionEnd) (stopped : Bool)
      → ServesOne asks ways before after window end stopped → AsksSome before.desk after.desk
  by_serving ways before after window end stopped serves = some_append before.desk serves.between after.desk
      (by_step before.desk serves.between (C.Fetch no_crash) serves.receipt serves.looks)
      (goes_on ways (record before { desk = serves.between }) after window serves.receipt end stopped serves.goes_on)

  -- what a desk has added stays below a bound
  pub stays_below : (added : K → ℕ) (bound : ℕ) → ((k : K) (command : Command) (receipt : Receipt) (l : K) → asks k command receipt l → (added k ≤ added l) × (added l < bound))
      → (before after : K) → added before < bound → AsksSome before after → added after < bound
  stays_below added bound each before after small asked = below asked.0 before small asked.1
    where
      below : (steps : List Step) (k : K) → added k < bound → AsksAll asks k steps after → added after < bound
      below [] k less is = subst (λ (l : K). added l < bound) (sym is) less
      below (step ∷ steps) k less (between, did, rest) = below steps between (each k step.command step.receipt between did).1 rest
