-- A run that serves a journal is a life of the desk.
use Rattle.std.proofs.Common.{◌≡◌, ℕ, IsTrue, is_some, IfSome, List, [], ◌∷◌, ◌++◌, map, Option, None, Some, refl, sym, ap, ◌∙◌, subst}
use Rattle.std.specs.Option.{option_map_or}
use Rattle.soc_edge.specs.Ahead.{Outlook}
use Rattle.soc_edge.specs.Disk.{DiskTold}
use Rattle.soc_edge.specs.Told.{Told}
use Rattle.soc_edge.specs.World.{surroundings}
use Rattle.soc_vault.specs.Openings.{AreEntriesOf}
use Rattle.soc_desk.specs.declared.desk.Command.{Command}
use Rattle.soc_desk.specs.declared.desk.Receipt.{Receipt}
use Rattle.soc_desk.specs.declared.desk.Reply.{Reply}
use Rattle.soc_desk.specs.Basis.{Basis}
use Rattle.soc_desk.specs.Log.{Kept, IsLegal}
use Rattle.soc_desk.specs.Opens.{log_of}
use Rattle.soc_desk.specs.Runs.{Answers, DeskAt}
use Rattle.soc_desk.specs.State.{State, Allowed, settled}
use Rattle.soc_lives.specs.Lives.{Action, Follow, IsFound, IsTransition, Transition, keeping, last_state}
use Rattle.soc_lives.specs.Runs.{EndsBehind, IsLife, RunsAlong, actions_of}
use Rattle.soc_lives.proofs.Carried.{opens_life, runs_are_lives}
use Rattle.soc_session.specs.declared.ending.SessionEnd.{SessionEnd}
use Rattle.soc_session.specs.Desk.{Asking, StepsDesk}
use Rattle.soc_session.specs.Session.{Response, met, refused, RunsDesk}
use Rattle.soc_replay.specs.declared.ending.Keeping.{Keeping}
use Rattle.soc_replay.specs.Lives.{asked_in, keeping_by}
use Rattle.soc_replay.specs.Serving.{KeepLeaves, KeepsBy, ServesJournal, Service, SurvivesStops, keep_reply}

-- ---- the session

module _ (basis : Basis) (left : ℕ → List ℕ → Type 0) where
  -- a message that was answered, and what was asked behind it
  behind : (asked : Option Asking) (first between last : DeskAt) (more : List (Command × Receipt)) → StepsDesk (Answers basis left) first asked between → RunsAlong basis left between more last
      → RunsAlong basis left first (option_map_or (λ asking. (asking.command, asking.receipt) ∷ more) asked more) last
  behind None first between last more same runs = subst (λ (d : DeskAt). RunsAlong basis left d more last) same runs
  behind (Some asking) first between last more answers runs = (between, answers, runs)

  along : (responses : List Response) (first last : DeskAt) → RunsDesk (Answers basis left) first responses last → RunsAlong basis left first (asked_in responses) last
  along [] first last runs = runs
  along (refused error ∷ responses) first last runs = along responses first last runs
  along (met exchange ∷ responses) first last runs = behind exchange.asked first runs.0 last (asked_in responses) runs.1 (along responses runs.0 last runs.2)

-- ---- the keeping

-- the keeping as what follows the session
record KeepsBehind (basis : Basis) (last : State) (Left : List ℕ → Type 0) (said : Option Reply) (kept : State) : Type 0 where
  later : List Transition
  actions_are : map (λ transition. transition.action) later ≡ option_map_or (λ reply. keeping reply ∷ []) said []
  last_is : last_state last later ≡ kept
  goes : Follow basis last later
  ends : (image : List ℕ) → Left image → EndsBehind basis last later image

keeps_behind : (basis : Basis) (last : State) (faults faults' : ℕ) (Left : List ℕ → Type 0) (said : Option Reply) (kept : State) → IsTrue basis.is_told → KeepsBy basis last faults faults' said kept
    → ((image : List ℕ) → Left image → KeepLeaves last said kept image) → KeepsBehind basis last Left said kept
keeps_behind basis last faults faults' Left None kept is_told same leaves = record {
  later = [];
  actions_are = refl;
  last_is = sym same;
  goes = tt;
  ends = λ image left. record { made = []; rest = []; whole = refl; goes = tt; cut = None; is_next = tt; leaves = subst (λ (s : State). Allowed s image) same (leaves image left) };
}
keeps_behind basis last faults faults' Left (Some said) kept is_told keeps leaves =
    let once : Transition = record { action = keeping said; after = kept } in
    let is : IsTransition basis last once = (keeps.0.step is_told, keeps.0.legal) in
    record {
      later = once ∷ [];
      actions_are = refl;
      last_is = refl;
      goes = (is, tt);
      ends = λ image left. record { made = []; rest = once ∷ []; whole = refl; goes = tt; cut = Some once; is_next = ([], refl); leaves = (is, leaves image left) };
    }

-- ---- the whole

module _ (disk disk' : DiskTold) (bytes : List ℕ) (content : disk.content ≡ Some bytes)
    (by : Service) (streams streams' : Told) (ahead ahead' : Outlook) (end : SessionEnd) (how : Keeping)
    (run : ServesJournal by (surroundings streams disk ahead) (surroundings streams' disk' ahead') end how) where
  is_told : IsTrue run.opening.basis.is_told
  is_told = run.opening.told ∙ ap (λ (c : Option (List ℕ)). is_some c) content

  are : AreEntriesOf bytes run.opening.entries
  are = subst (λ (c : Option (List ℕ)). IfSome c (λ b. AreEntriesOf b run.opening.entries)) content run.opening.found

  abbrev Leaves : List ℕ → Type 0
  Leaves = KeepLeaves run.served.state (keep_reply how) run.kept

  survives : SurvivesStops disk disk' bytes run.opened run.served Leaves run.kept
  survives = subst (λ (c : Option (List ℕ)). IfSome c (λ b. SurvivesStops disk disk' b run.opened run.served Leaves run.kept)) content run.survives

  opens : (opening : List Kept) × (run.opening.log ≡ log_of opening) × IsFound bytes opening × IsLegal run.opening.basis (log_of opening)
  opens = opens_life run.opening.basis bytes run.opening.entries run.opening.log is_told are run.opening.opens

  late : KeepsBehind run.opening.basis run.served.state (disk'.since run.served.moment) (keep_reply how) run.kept
  late = keeps_behind run.opening.basis run.served.state run.served.faults disk'.faults (disk'.since run.served.moment) (keep_reply how) run.kept is_told run.keeps survives.keeping

  lives : IsLife run.opening.basis disk'.since bytes opens.0 run.opened.moment
      (actions_of (asked_in run.serves.responses) ++ map (λ transition. transition.action) late.later) (last_state run.served.state late.later)
  lives = runs_are_lives disk'.since run.opening.basis bytes opens.0 run.opened run.served (asked_in run.serves.responses) late.later is_told opens.2 opens.3
      (run.opened_as ∙ ap settled opens.1) (along run.opening.basis disk'.since run.serves.responses run.opened run.served run.serves.runs) late.goes late.ends

  pub run_lives : (opening : List Kept) × (run.opening.log ≡ log_of opening)
      × IsLife run.opening.basis disk'.since bytes opening run.opened.moment (actions_of (asked_in run.serves.responses) ++ keeping_by how) run.kept
  run_lives = (
    opens.0,
    opens.1,
    subst (λ (s : State). IsLife run.opening.basis disk'.since bytes opens.0 run.opened.moment (actions_of (asked_in run.serves.responses) ++ keeping_by how) s) late.last_is
        (subst (λ (actions : List Action). IsLife run.opening.basis disk'.since bytes opens.0 run.opened.moment (actions_of (asked_in run.serves.responses) ++ actions) (last_state run.served.state late.later))
        late.actions_are lives),
  )
