-- A service over a journal is a life of the desk.
use Rattle.std.proofs.Common.{◌≡◌, ◌⊎◌, ⊎_elim, inl, inr, ℕ, ◌≤◌, Bool, true, false, IsTrue, List, [], ◌∷◌, ◌++◌, length, map, Option, None, Some, IfSome, IsSomeAnd, MatchOption, refl, sym, ap, ◌∙◌, subst, arith}
use Rattle.std.specs.Prelude.{is_some}
use Rattle.std.specs.List.{AllByRecursion}
use Rattle.std.proofs.lemmas.List.{append-nil, append_assoc, append_cancel_left, length-map}
use Rattle.std.proofs.lemmas.List.Elements.{filter_map-append}
use Rattle.soc_schema.specs.declared.permission.Permission.{Permission}
use Rattle.soc_edge.specs.Ahead.{Outlook}
use Rattle.soc_edge.specs.Disk.{DiskTold}
use Rattle.soc_edge.specs.Told.{Told}
use Rattle.soc_edge.specs.World.{Surroundings, surroundings}
use Rattle.soc_ledger.specs.declared.event.Event.{Event}
use Rattle.soc_ledger.specs.Due.{due_ids}
use Rattle.soc_pool.specs.declared.pass.RingEnd.{RingEnd}
use Rattle.soc_vault.specs.Openings.{AreEntriesOf}
use Rattle.soc_desk.specs.declared.desk.Command.{Command}
use Rattle.soc_desk.specs.declared.desk.Command.TheVariants as C
use Rattle.soc_desk.specs.declared.desk.Receipt.{Receipt}
use Rattle.soc_desk.specs.declared.desk.Refusal.TheVariants as F
use Rattle.soc_desk.specs.declared.desk.Reply.{Reply}
use Rattle.soc_desk.specs.declared.desk.Reply.TheVariants as R
use Rattle.soc_desk.specs.Asks.{Gains}
use Rattle.soc_desk.specs.Basis.{Basis}
use Rattle.soc_desk.specs.Decisions.{Decision, answers, appends, decide, lacked}
use Rattle.soc_desk.specs.Desk.{Decides, FailsMend, FailsRead, IfElse, Refuses, SettlesAndDecides, Step, StepWriting}
use Rattle.soc_desk.specs.Grows.{StaysInDoubt}
use Rattle.soc_desk.specs.Keeps.{KeepAllows, KeepsWith, StandsBetween, kept_with_doubt}
use Rattle.soc_desk.specs.Log.{Change, Kept, IsLegal, event_of, events, keep}
use Rattle.soc_desk.specs.Opens.{log_of}
use Rattle.soc_desk.specs.Runs.{Answers, DeskAt}
use Rattle.soc_desk.specs.State.{State, Allowed, StandsFor, doubted, has_room, kept_in, kept_of, settled}
use Rattle.soc_lives.specs.Lives.{Action, asking, keeping, Follow, IsFound, IsTransition, LeavesInside, Transition, last_state}
use Rattle.soc_lives.specs.Runs.{EndsBehind, IsLife, RunsAlong, actions_of}
use Rattle.soc_lives.proofs.Carried.{opens_life, runs_are_lives}
use Rattle.soc_crew.specs.declared.crew.Crew.{Crew}
use Rattle.soc_turns.specs.Runs.{RunsTurns}
use Rattle.soc_replay.specs.Serving.{Service, SurvivesStops}
use Rattle.soc_serve.specs.declared.ending.HostEnd.{HostEnd}
use Rattle.soc_serve.specs.declared.ending.HostEnd.TheVariants as H
use Rattle.soc_serve.specs.declared.sweep.SweepFault.{SweepFault}
use Rattle.soc_serve.specs.Hosts.{Closes, HostsDesk}
use Rattle.soc_serve.specs.Lives.{IsOfSweep}
use Rattle.soc_serve.specs.Sweep.{FailsAt, IsBehind, KeepsTwice, ProcessesWith, Sweeps}
use Rattle.soc_serve.specs.inner.Sweeping.{SameJournal}
use Rattle.soc_serve.proofs.Stops.{drained_same, longer, nothing_in_doubt}
use Rattle.soc_serve.proofs.Sweeps.{behind_again, operator, still}

-- ---- what turns leave in doubt

-- one change at most is in doubt
abbrev IsShort : State → Type 0
IsShort state = length state.doubt ≤ 1

module _ (basis : Basis) (before : State) (reply : Reply) (after : State) (was : IsShort before) where
  short_as : (state : State) → after ≡ state → IsShort state → IsShort after
  short_as state same short = subst IsShort (sym same) short

  appended : (log : List Change) (change : Kept) (written : Reply) (room : Bool)
      → IfElse room (((reply ≡ written) × (after ≡ settled (log ++ keep change ∷ []))) ⊎ ((reply ≡ R.Refused F.StoreFault) × (after ≡ record { log = log; doubt = change ∷ [] })))
      ((reply ≡ R.Refused F.JournalFull) × (after ≡ settled log)) → IsShort after
  appended log change written true (inl (said, same)) = short_as (settled (log ++ keep change ∷ [])) same (omega arith)
  appended log change written true (inr (said, same)) = short_as (record { log = log; doubt = change ∷ [] }) same (omega arith)
  appended log change written false (said, same) = short_as (settled log) same (omega arith)

  decided : (log : List Change) (decision : Option Decision) → IsSomeAnd decision (λ d. Decides basis log d reply after) → IsShort after
  decided log None never = absurd never
  decided log (Some (answers said)) decides = short_as (settled log) decides.1 (omega arith)
  decided log (Some (appends change written)) decides = appended log change written (has_room basis log change) decides

  unread : (log : List Change) (command : Command) → FailsRead basis log command reply after → IsShort after
  unread log (C.Submit raw) fails = short_as (settled log) fails.2 (omega arith)
  unread log _ fails = absurd fails

  writes : (command : Command) → StepWriting basis before command reply after → IsShort after
  writes command step = permitted (lacked command) step where
    by : Refuses before F.NoMemory reply after ⊎ (FailsMend before reply after ⊎ SettlesAndDecides basis before command reply after) → IsShort after
    by (inl (said, same)) = short_as before same was
    by (inr (inl (some, (said, same)))) = short_as before same was
    by (inr (inr settles)) = ⊎_elim (decided settles.log (decide basis settles.log command)) (unread settles.log command) settles.decides

    permitted : (wants : Option Permission) → MatchOption wants (Refuses before F.NoMemory reply after ⊎ (FailsMend before reply after ⊎ SettlesAndDecides basis before command reply after))
        (λ name. Refuses before (F.NoPermission name) reply after) → IsShort after
    permitted None goes = by goes
    permitted (Some name) (said, same) = short_as before same was

  same_doubt : doubted basis after ≡ doubted basis before → IsShort after
  same_doubt same =
      let seen : Kept → Event = λ change. event_of basis (keep change) in
      subst (λ n. n ≤ 1) (sym (sym (length-map after.doubt seen) ∙ (ap length same ∙ length-map before.doubt seen))) was

  stays : (piece : List Event) → StaysInDoubt (doubted basis before) piece (doubted basis after) → IsShort after
  stays piece (none, same) = same_doubt same

  stays_so : {A : Type 0} (piece : List Event) → A × StaysInDoubt (doubted basis before) piece (doubted basis after) → IsShort after
  stays_so piece (so, (none, same)) = same_doubt same

  short_after : (command : Command) → Gains basis before command reply after → Step basis before command reply after → IsShort after
  short_after (C.Submit raw) gains step = writes (C.Submit raw) step
  short_after (C.Priority caller id) gains step = writes (C.Priority caller id) step
  short_after (C.Reprocess caller id) gains step = writes (C.Reprocess caller id) step
  short_after (C.Withdraw caller id) gains step = writes (C.Withdraw caller id) step
  short_after (C.Raw caller id) gains step = stays_so (events basis gains.piece) gains.grows
  short_after (C.Processed caller id) gains step = stays_so (events basis gains.piece) gains.grows
  short_after (C.Dump caller id name) gains step = stays_so (events basis gains.piece) gains.grows
  short_after (C.Stack caller id) gains step = stays_so (events basis gains.piece) gains.grows
  short_after (C.Search query) gains step = stays (events basis gains.piece) gains.grows
  short_after (C.Tops query) gains step = stays (events basis gains.piece) gains.grows
  short_after (C.Counts caller) gains step = stays_so (events basis gains.piece) gains.grows
  short_after (C.Turn caller) gains step = same_doubt gains.grows.1
  short_after (C.Drain caller) gains step = same_doubt gains.grows.1
  short_after (C.Stop caller) gains step = same_doubt gains.grows.1
  short_after (C.Fetch id) gains step = stays_so (events basis gains.piece) gains.grows
  short_after (C.Finish processed) gains step = same_doubt gains.grows.1

module _ (basis : Basis) (left : ℕ → List ℕ → Type 0) (is_told : IsTrue basis.is_told) where
  short_behind : (turns : List (Command × Receipt)) (first last : DeskAt) → RunsTurns (Answers basis left) first turns last → IsShort first.state → IsShort last.state
  short_behind [] first last same was = subst (λ (d : DeskAt). IsShort d.state) (sym same) was
  short_behind (turn ∷ turns) first last (between, answered, runs) was =
      short_behind turns between last runs (short_after basis first.state turn.1.reply between.state was turn.0 answered.gains (answered.step is_told))

  along : (turns : List (Command × Receipt)) (first last : DeskAt) → RunsTurns (Answers basis left) first turns last → RunsAlong basis left first turns last
  along [] first last same = same
  along (turn ∷ turns) first last (between, answered, runs) = (between, answered, along turns between last runs)

-- so that some of the doubt is all or none of it
short_allowed : (state : State) (image : List ℕ) → IsShort state → StandsBetween (kept_of state.log) (kept_with_doubt state) image → Allowed state image
short_allowed state image short between =
    by state.doubt between.more between.rest (append_cancel_left (kept_of state.log) state.doubt (between.more ++ between.rest) between.whole) short between.stands where
      by : (doubt more rest : List Kept) → doubt ≡ more ++ rest → length doubt ≤ 1 → StandsFor image (kept_of state.log ++ more)
          → StandsFor image (kept_of state.log) ⊎ StandsFor image (kept_of state.log ++ doubt)
      by doubt [] rest whole few stands = inl (subst (λ (k : List Kept). StandsFor image k) (append-nil (kept_of state.log)) stands)
      by doubt (one ∷ []) [] whole few stands = inr (subst (λ (k : List Kept). StandsFor image (kept_of state.log ++ k)) (sym whole) stands)
      by doubt (one ∷ []) (other ∷ rest) whole few stands = let long = ap length whole in absurd (omega (arith, long, few))
      by doubt (one ∷ other ∷ more) rest whole few stands = let long = ap length whole in absurd (omega (arith, long, few))

-- ---- what the sweep did

record Swept (basis : Basis) (before after : State) : Type 0 where
  later : List Transition
  of_sweep : AllByRecursion IsOfSweep (map (λ transition. transition.action) later)
  last_is : last_state before later ≡ after
  behind : IsBehind before after
  goes : Follow basis before later
  ends : (image : List ℕ) → KeepAllows before after image → EndsBehind basis before later image

nothing_swept : (basis : Basis) (state : State) → IsShort state → Swept basis state state
nothing_swept basis state short = record {
  later = [];
  of_sweep = tt;
  last_is = refl;
  behind = still state;
  goes = tt;
  ends = λ image allows.
      record { made = []; rest = []; whole = refl; goes = tt; cut = None; is_next = tt; leaves = ⊎_elim (λ allowed. allowed) (short_allowed state image short) allows };
}

tails : {A : Type 0} {x y : A} {xs ys : List A} → x ∷ xs ≡ y ∷ ys → xs ≡ ys
tails same = cc

heads : {A : Type 0} {x y : A} {xs ys : List A} → x ∷ xs ≡ y ∷ ys → x ≡ y
heads same = cc

-- one front of a list begins with the other
fronts : (first rest front back : List Kept) → first ++ rest ≡ front ++ back
    → ((more : List Kept) × (front ≡ first ++ more)) ⊎ ((more : List Kept) × (first ≡ front ++ more) × (back ≡ more ++ rest))
fronts [] rest front back same = inl (front, refl)
fronts (one ∷ first) rest [] back same = inr (one ∷ first, refl, sym same)
fronts (one ∷ first) rest (other ∷ front) back same = ⊎_elim
    (λ (early : (more : List Kept) × (front ≡ first ++ more)). inl (early.0, ap (λ (k : List Kept). other ∷ k) early.1 ∙ ap (λ (x : Kept). x ∷ (first ++ early.0)) (sym (heads same))))
    (λ (late : (more : List Kept) × (first ≡ front ++ more) × (back ≡ more ++ rest)). inr (late.0, ap (λ (k : List Kept). one ∷ k) late.1 ∙ ap (λ (x : Kept). x ∷ (front ++ late.0)) (heads same), late.2))
    (fronts first rest front back (tails same))

-- one action, and then those of a sweep
module _ (basis : Basis) (before : State) (action : Action) (between : State) (is_of_sweep : IsOfSweep action) (behind : IsBehind before between)
    (inside : (image : List ℕ) → KeepAllows before between image → LeavesInside before action between image) where
  abbrev once : Transition
  once = record { action = action; after = between }

  cut_short : (is : IsTransition basis before once) (later : List Transition) (image : List ℕ) → KeepAllows before between image → EndsBehind basis before (once ∷ later) image
  cut_short is later image allows =
      record { made = []; rest = once ∷ later; whole = refl; goes = tt; cut = Some once; is_next = (later, refl); leaves = (is, inside image allows) }

  last_swept : IsTransition basis before once → Swept basis before between
  last_swept is =
      record { later = once ∷ []; of_sweep = (is_of_sweep, tt); last_is = refl; behind = behind; goes = (is, tt); ends = λ image allows. cut_short is [] image allows }

  module _ (after : State) (is : IsTransition basis before once) (none : between.doubt ≡ []) (swept : Swept basis between after) where
    abbrev own : List Kept
    own = kept_of behind.0

    abbrev others : List Kept
    others = kept_of swept.behind.0 ++ after.doubt

    grown : kept_of between.log ≡ kept_of before.log ++ own
    grown = ap kept_of behind.1 ∙ filter_map-append kept_in before.log behind.0

    whole : kept_with_doubt after ≡ kept_of before.log ++ (own ++ others)
    whole = longer between after swept.behind.0 swept.behind.1 ∙ (ap (λ (k : List Kept). k ++ others) grown ∙ append_assoc (kept_of before.log) own others)

    then_ends : (image : List ℕ) → KeepAllows before after image → EndsBehind basis before (once ∷ swept.later) image
    then_ends image (inl allowed) = cut_short is swept.later image (inl allowed)
    then_ends image (inr stands) = ⊎_elim early late
        (fronts stands.more stands.rest own others (append_cancel_left (kept_of before.log) (stands.more ++ stands.rest) (own ++ others) (sym stands.whole ∙ whole))) where
          early : (more : List Kept) × (own ≡ stands.more ++ more) → EndsBehind basis before (once ∷ swept.later) image
          early (more, is_own) = cut_short is swept.later image (inr (record {
            more = stands.more;
            rest = more;
            whole = ap (λ (k : List Kept). kept_of between.log ++ k) none ∙ (append-nil (kept_of between.log) ∙ (grown ∙ ap (λ (k : List Kept). kept_of before.log ++ k) is_own));
            stands = stands.stands;
          }))

          late : (more : List Kept) × (stands.more ≡ own ++ more) × (others ≡ more ++ stands.rest) → EndsBehind basis before (once ∷ swept.later) image
          late (more, is_more, is_rest) =
              let ends = swept.ends image (inr (record {
                more = more;
                rest = stands.rest;
                whole = longer between after swept.behind.0 swept.behind.1 ∙ ap (λ (k : List Kept). kept_of between.log ++ k) is_rest;
                stands = subst (λ (k : List Kept). StandsFor image k)
                    (ap (λ (k : List Kept). kept_of before.log ++ k) is_more ∙ (sym (append_assoc (kept_of before.log) own more) ∙ ap (λ (k : List Kept). k ++ more) (sym grown))) stands.stands;
              })) in record {
                made = once ∷ ends.made;
                rest = ends.rest;
                whole = ap (λ (ts : List Transition). once ∷ ts) ends.whole;
                goes = (is, ends.goes);
                cut = ends.cut;
                is_next = ends.is_next;
                leaves = ends.leaves;
              }

    then_swept : Swept basis before after
    then_swept = record {
      later = once ∷ swept.later;
      of_sweep = (is_of_sweep, swept.of_sweep);
      last_is = swept.last_is;
      behind = behind_again before between after behind swept.behind;
      goes = (is, swept.goes);
      ends = then_ends;
    }

module _ (basis : Basis) (is_told : IsTrue basis.is_told) where
  -- reports are kept
  module _ (before : State) (reply : Reply) (between : State) (keeps : KeepsWith basis before reply between) where
    keeps_last : Swept basis before between
    keeps_last = last_swept basis before (keeping reply) between tt (keeps.piece, keeps.behind) (λ image allows. allows) (keeps.step is_told, keeps.legal)

    keeps_then : (after : State) → between.doubt ≡ [] → Swept basis between after → Swept basis before after
    keeps_then after none swept =
        then_swept basis before (keeping reply) between tt (keeps.piece, keeps.behind) (λ image allows. allows) after (keeps.step is_told, keeps.legal) none swept

  -- what is due is processed, with nothing in doubt
  module _ (before : State) (reply : Reply) (between : State) (processes : ProcessesWith basis before reply between) (none : before.doubt ≡ []) where
    abbrev same : SameJournal before between
    same = drained_same before (due_ids (events basis before.log)) reply between (processes.step is_told)

    still_none : between.doubt ≡ []
    still_none = same.doubt ∙ none

    inside : (image : List ℕ) → KeepAllows before between image → Allowed before image ⊎ Allowed between image
    inside image (inl allowed) = inl allowed
    inside image (inr stands) = inr (short_allowed between image
        (subst (λ (k : List Kept). length k ≤ 1) (sym still_none) (omega arith))
        (subst (λ (k : List Kept). StandsBetween k (kept_with_doubt between) image) (sym same.kept) stands))

    processes_last : Swept basis before between
    processes_last =
        last_swept basis before (asking (C.Drain operator) reply) between tt (processes.piece, processes.behind) inside (processes.step is_told, processes.legal)

    processes_then : (after : State) → Swept basis between after → Swept basis before after
    processes_then after swept =
        then_swept basis before (asking (C.Drain operator) reply) between tt (processes.piece, processes.behind) inside after (processes.step is_told, processes.legal) still_none swept

  -- both, and then reports are kept again
  module _ (before : State) (processed kept : Reply) (between : State) (keeps : KeepsTwice basis before processed kept between) where
    none_early : keeps.opened.doubt ≡ []
    none_early = nothing_in_doubt basis before keeps.early keeps.opened keeps.keeps_early

    from_second : (after : State) → Swept basis keeps.goes_on.first after → Swept basis before after
    from_second after swept =
        keeps_then before (R.Kept keeps.early) keeps.opened keeps.keeps_early after none_early
        (processes_then keeps.opened processed keeps.goes_on.first keeps.goes_on.processes none_early after swept)

    twice_last : Swept basis before between
    twice_last = from_second between (keeps_last keeps.goes_on.first kept between keeps.goes_on.keeps_made)

  -- and what became due meanwhile is processed
  late_last : (before : State) (processed : Reply) (count : ℕ) (kept : State) (reply : Reply) (after : State)
      → KeepsTwice basis before processed (R.Kept count) kept → ProcessesWith basis kept reply after → Swept basis before after
  late_last before processed count kept reply after keeps processes =
      let none = nothing_in_doubt basis keeps.goes_on.first count kept keeps.goes_on.keeps_made in
      from_second before processed (R.Kept count) kept keeps after
      (keeps_then keeps.goes_on.first (R.Kept count) kept keeps.goes_on.keeps_made after none (processes_last kept reply after processes none))

  fails : (before : State) (fault : SweepFault) (after : State) → IsShort before → FailsAt basis before fault after → Swept basis before after
  fails before fault after short (inl (none, unchanged)) = subst (λ (s : State). Swept basis before s) (sym unchanged) (nothing_swept basis before short)
  fails before fault after short (inr (why, is, inl keeps)) = keeps_last before (R.Refused why) after keeps
  fails before fault after short (inr (why, is, inr (inl (inl (reply, keeps))))) = twice_last before reply (R.Refused why) after keeps
  fails before fault after short (inr (why, is, inr (inl (inr (count, keeps))))) = twice_last before (R.Refused why) (R.Kept count) after keeps
  fails before fault after short (inr (why, is, inr (inr (processed, count, kept, keeps, processes)))) =
      late_last before (R.Drained processed) count kept (R.Refused why) after keeps processes

  sweeps : (before after : State) → Sweeps basis before after → Swept basis before after
  sweeps before after swept = late_last before (R.Drained swept.processed) swept.count swept.kept (R.Drained swept.late) after swept.keeps swept.processes_late

  closes : (before after : Surroundings) (end : HostEnd) (served : DeskAt) (swept : State) → IsShort served.state → Closes before after end basis served swept → Swept basis served.state swept
  closes before after (H.Before end) served swept short never = absurd never
  closes before after (H.Swept fault) served swept short closed = fails served.state fault swept short closed.0.stage
  closes before after (H.Lines fault) served swept short closed = sweeps served.state swept closed.0
  closes before after H.Failed served swept short closed = sweeps served.state swept closed.0
  closes before after H.Done served swept short closed = sweeps served.state swept closed.0

-- ---- the whole

module _ (disk disk' : DiskTold) (bytes : List ℕ) (content : disk.content ≡ Some bytes)
    (by : Service) (crew : Crew) (kept : ℕ) (ring : Option RingEnd) (streams streams' : Told) (ahead ahead' : Outlook) (end : HostEnd)
    (run : HostsDesk by crew kept ring (surroundings streams disk ahead) (surroundings streams' disk' ahead') end) where
  is_told : IsTrue run.opening.basis.is_told
  is_told = run.opening.told ∙ ap (λ (c : Option (List ℕ)). is_some c) content

  entries_are : AreEntriesOf bytes run.opening.entries
  entries_are = subst (λ (c : Option (List ℕ)). IfSome c (λ b. AreEntriesOf b run.opening.entries)) content run.opening.found

  abbrev Leaves : List ℕ → Type 0
  Leaves = KeepAllows run.served.state run.swept

  survives : SurvivesStops disk disk' bytes run.opened run.served Leaves run.swept
  survives = subst (λ (c : Option (List ℕ)). IfSome c (λ b. SurvivesStops disk disk' b run.opened run.served Leaves run.swept)) content run.survives

  opens : (opening : List Kept) × (run.opening.log ≡ log_of opening) × IsFound bytes opening × IsLegal run.opening.basis (log_of opening)
  opens = opens_life run.opening.basis bytes run.opening.entries run.opening.log is_told entries_are run.opening.opens

  short : IsShort run.served.state
  short = short_behind run.opening.basis disk'.since is_told run.turns run.opened run.served run.runs (subst IsShort (sym run.opened_as) (omega arith))

  swept : Swept run.opening.basis run.served.state run.swept
  swept = closes run.opening.basis is_told (surroundings streams disk ahead) (surroundings streams' disk' ahead') end run.served run.swept short run.closes

  lives : IsLife run.opening.basis disk'.since bytes opens.0 run.opened.moment
      (actions_of run.turns ++ map (λ transition. transition.action) swept.later) (last_state run.served.state swept.later)
  lives = runs_are_lives disk'.since run.opening.basis bytes opens.0 run.opened run.served run.turns swept.later is_told opens.2 opens.3
      (run.opened_as ∙ ap settled opens.1) (along run.opening.basis disk'.since is_told run.turns run.opened run.served run.runs) swept.goes
      (λ image left. swept.ends image (survives.keeping image left))

  pub service_lives : (opening : List Kept) × (run.opening.log ≡ log_of opening) × (actions : List Action) × AllByRecursion IsOfSweep actions
      × IsLife run.opening.basis disk'.since bytes opening run.opened.moment (actions_of run.turns ++ actions) run.swept
  service_lives = (
    opens.0,
    opens.1,
    map (λ transition. transition.action) swept.later,
    swept.of_sweep,
    subst (λ (s : State). IsLife run.opening.basis disk'.since bytes opens.0 run.opened.moment (actions_of run.turns ++ map (λ transition. transition.action) swept.later) s) swept.last_is lives,
  )
