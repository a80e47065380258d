-- A session's run of a desk over a journal is one run of the desk's log, which every stop of the machine outlives.
use Rattle.std.proofs.Common.{◌≡◌, ℕ, ◌+◌, ◌≤◌, IsTrue, List, [], ◌∷◌, ◌++◌, Option, None, Some, refl, sym, ap, ◌∙◌, subst, inl, inr, ◌⊎◌, ⊎_elim, arith}
use Rattle.std.specs.Option.{option_map_or}
use Rattle.std.proofs.lemmas.List.{append-nil, append_assoc}
use Rattle.std.proofs.lemmas.List.Elements.{filter_map-append}
use Rattle.soc_edge.specs.Disk.{DiskTold, IsDisk, GoesOn}
use Rattle.soc_edge.specs.Faults.{Rose}
use Rattle.soc_edge.proofs.Disks.{GoesOn-none, GoesOn-append}
use Rattle.soc_desk.specs.declared.desk.Command.{Command}
use Rattle.soc_desk.specs.declared.desk.Receipt.{Receipt}
use Rattle.soc_desk.specs.declared.desk.Reply.{Reply}
use Rattle.soc_desk.specs.declared.desk.Reply.TheVariants as R
use Rattle.soc_desk.specs.declared.desk.Refusal.{Refusal}
use Rattle.soc_desk.specs.declared.desk.Refusal.TheVariants as F
use Rattle.soc_desk.specs.Asks.{Asks, IsStoreFault}
use Rattle.soc_desk.specs.Basis.{Basis}
use Rattle.soc_desk.specs.Keeps.{KeepAllows}
use Rattle.soc_desk.specs.Laws.{HasAll}
use Rattle.soc_desk.specs.Log.{Change, Kept}
use Rattle.soc_desk.specs.State.{State, Allowed, StandsFor, kept_in, kept_of}
use Rattle.soc_session.specs.Desk.{Asking, Exchange, StepsDesk}
use Rattle.soc_session.specs.Session.{Response, met, refused, RunsDesk}
use Rattle.soc_desk.specs.Runs.{Answers, DeskAt}
use Rattle.soc_replay.specs.Blames.{RoseBy, store_fault, store_faults}

-- ---- the disk's count of faults

rose-trans : (a b before middle after : ℕ) → RoseBy a before middle → RoseBy b middle after → middle ≤ after → RoseBy (a + b) before after
rose-trans a b before middle after (inl first) (inl second) le = inl (omega (arith, first, second))
rose-trans a b before middle after (inr first) second le = inr (omega (arith, first, le))
rose-trans a b before middle after (inl first) (inr second) le = inr second

no_more : (number before after : ℕ) → RoseBy number before after → RoseBy (0 + number) before after
no_more number before after (inl rose) = inl (omega (arith, rose))
no_more number before after (inr last) = inr last

of_refusal : (refusal : Refusal) (before after : ℕ) → (IsStoreFault (R.Refused refusal) → Rose before after) → before ≤ after
    → RoseBy (store_fault (R.Refused refusal)) before after
of_refusal F.StoreFault before after fault le = ⊎_elim (λ more. inl (omega (arith, more))) (λ last. inr last) (fault tt)
of_refusal _ before after fault le = inl (omega (arith, le))

fault_counted : (reply : Reply) (before after : ℕ) → (IsStoreFault reply → Rose before after) → before ≤ after → RoseBy (store_fault reply) before after
fault_counted (R.Refused refusal) before after fault le = of_refusal refusal before after fault le
fault_counted _ before after fault le = inl (omega (arith, le))

-- ---- what an image has

-- what a state allows has all that was kept
pub has_kept : (state : State) (image : List ℕ) → Allowed state image → HasAll (kept_of state.log) image
has_kept state image (inl stands) = ([], subst (λ (kept : List Kept). StandsFor image kept) (sym (append-nil (kept_of state.log))) stands)
has_kept state image (inr stands) = (state.doubt, stands)

-- and so has what is allowed while reports are kept
pub keeping_has : (state after : State) (image : List ℕ) → KeepAllows state after image → HasAll (kept_of state.log) image
keeping_has state after image (inl allowed) = has_kept state image allowed
keeping_has state after image (inr between) = (between.more, between.stands)

-- a log's front had kept no more
had_kept : (log log' piece : List Change) (image : List ℕ) → log' ≡ log ++ piece → HasAll (kept_of log') image → HasAll (kept_of log) image
had_kept log log' piece image behind (more, stands) =
    let split : kept_of log' ++ more ≡ kept_of log ++ (kept_of piece ++ more) =
    ap (λ (l : List Change). kept_of l ++ more) behind
    ∙ (ap (λ (k : List Kept). k ++ more) (filter_map-append kept_in log piece) ∙ append_assoc (kept_of log) (kept_of piece) more) in
    (kept_of piece ++ more, subst (λ (kept : List Kept). StandsFor image kept) split stands)

-- ---- a run

-- each stop since this desk's moment leaves all that was kept by then
abbrev pub Outlives : Basis → (ℕ → List ℕ → Type 0) → DeskAt → Type 0
Outlives basis left desk = IsTrue basis.is_told → (image : List ℕ) → left desk.moment image → HasAll (kept_of desk.state.log) image

-- the disk is the one of this desk: what stops since the moment until now might have left is allowed
pub record IsOver (basis : Basis) (disk : DiskTold) (desk : DeskAt) : Type 0 where
  pub within : desk.moment ≤ disk.moment
  pub faults_are : desk.faults ≡ disk.faults
  pub holds : IsTrue basis.is_told → (image : List ℕ) → disk.since desk.moment image → Allowed desk.state image

-- A desk that the responses lead to, over this disk. Where time goes on from it to a final one, they are a run whose answers
-- say what stops until then leave.
pub record Reaches (basis : Basis) (final : DiskTold) (first : DeskAt) (responses : List Response) (disk : DiskTold) (IsNow : State → Type 0) : Type 0 where
  pub last : DeskAt
  pub now : IsNow last.state
  pub over : IsOver basis disk last
  pub no_fewer : first.faults ≤ last.faults
  pub faults : RoseBy (store_faults responses) first.faults last.faults
  pub runs : GoesOn disk final → Outlives basis final.since last → RunsDesk (Answers basis final.since) first responses last
  pub outlives : GoesOn disk final → Outlives basis final.since last → Outlives basis final.since first

module _ {K : Type 0} (asks : K → Command → Receipt → K → Type 0) (disk_of : K → DiskTold) (sound : (desk : K) → IsDisk (disk_of desk)) (basis : Basis)
    (Stands : K → State → Type 0)
    (steps : (desk desk' : K) (command : Command) (receipt : Receipt) → asks desk command receipt desk' → (state : State) → Stands desk state
    → (after : State) × Stands desk' after × Asks basis state (disk_of desk) command receipt after (disk_of desk')) where
  -- time goes on behind a message that was answered, where it does behind it
  went_on : (responses : List Response) (desk desk' : K) (state : State) → Stands desk state → (asked asked' : Option Asking) → asked ≡ asked'
      → (between : K) → StepsDesk asks desk asked between → RunsDesk asks between responses desk'
      → ((d : K) (s : State) → Stands d s → RunsDesk asks d responses desk' → GoesOn (disk_of d) (disk_of desk')) → GoesOn (disk_of desk) (disk_of desk')
  went_on responses desk desk' state stands asked None e between step runs more =
      let same : between ≡ desk = subst (λ a. StepsDesk asks desk a between) e step in
      more desk state stands (subst (λ d. RunsDesk asks d responses desk') same runs)
  went_on responses desk desk' state stands asked (Some asking) e between step runs more =
      let one = steps desk between asking.command asking.receipt (subst (λ a. StepsDesk asks desk a between) e step) state stands in
      GoesOn-append (disk_of desk) (disk_of between) (disk_of desk') one.2.goes_on (more between one.0 one.1 runs)

  -- time goes on along a run
  pub goes_on : (responses : List Response) (desk desk' : K) (state : State) → Stands desk state → RunsDesk asks desk responses desk' → GoesOn (disk_of desk) (disk_of desk')
  goes_on [] desk desk' state stands runs = subst (λ d. GoesOn (disk_of desk) (disk_of d)) (sym runs) (GoesOn-none (disk_of desk) (sound desk))
  goes_on (refused error ∷ responses) desk desk' state stands runs = goes_on responses desk desk' state stands runs
  goes_on (met exchange ∷ responses) desk desk' state stands runs =
      went_on responses desk desk' state stands exchange.asked exchange.asked refl runs.0 runs.1 runs.2 (λ d s st r. goes_on responses d desk' s st r)

  -- one command of a run, to whose end time goes on
  module _ (final : DiskTold) (first : DeskAt) (desk between : K) (command : Command) (receipt : Receipt) (next : State)
      (over : IsOver basis (disk_of desk) first) (done : Asks basis first.state (disk_of desk) command receipt next (disk_of between)) where
    abbrev pub second : DeskAt
    second = record { state = next; moment = (disk_of between).moment; faults = (disk_of between).faults }

    pub over_second : IsOver basis (disk_of between) second
    over_second = record {
      within = omega arith;
      faults_are = refl;
      holds = λ told image since. done.allowed told image ((sound between).only_now image since);
    }

    pub more_faults : first.faults ≤ (disk_of between).faults
    more_faults = omega (arith, over.faults_are, done.goes_on.faults_never_fall)

    fault : IsStoreFault receipt.reply → Rose first.faults (disk_of between).faults
    fault is = subst (λ (n : ℕ). Rose n (disk_of between).faults) (sym over.faults_are) (done.fault is)

    pub counted : RoseBy (store_fault receipt.reply) first.faults (disk_of between).faults
    counted = fault_counted receipt.reply first.faults (disk_of between).faults fault more_faults

    survives : GoesOn (disk_of between) final → IsTrue basis.is_told → (image : List ℕ) → final.since first.moment image
        → (Allowed first.state image ⊎ Allowed next image) ⊎ final.since (disk_of between).moment image
    survives on told image left = ⊎_elim
        (λ early. inl (⊎_elim (λ was. inl (over.holds told image was)) (λ meanwhile. (done.survives told).each image meanwhile)
        (done.goes_on.nothing_else first.moment image over.within early)))
        (λ late. inr late)
        (on.nothing_else first.moment image (omega (arith, over.within, done.goes_on.later)) left)

    pub answers : GoesOn (disk_of between) final → Outlives basis final.since second → Answers basis final.since first command receipt second
    answers on out = record {
      kind = done.kind;
      gains = done.gains;
      legal = done.legal;
      front = done.front;
      short = done.short;
      stopped = done.stopped;
      later = omega (arith, over.within, done.goes_on.later);
      no_fewer = more_faults;
      fault = fault;
      altered = done.altered;
      step = done.step;
      survives = survives on;
      outlives = out;
    }

    pub outlives_first : GoesOn (disk_of between) final → Outlives basis final.since second → Outlives basis final.since first
    outlives_first on out told image left = ⊎_elim
        (λ early. ⊎_elim (λ was. has_kept first.state image was)
        (λ is. had_kept first.state.log next.log done.gains.piece image done.gains.behind (has_kept next image is)) early)
        (λ late. had_kept first.state.log next.log done.gains.piece image done.gains.behind (out told image late))
        (survives on told image left)

  -- a message that was answered, and then a run along these responses
  answered : (final : DiskTold) (exchange : Exchange) (responses : List Response) (desk desk' : K) (first : DeskAt) → Stands desk first.state → IsOver basis (disk_of desk) first
      → (asked : Option Asking) → exchange.asked ≡ asked
      → (between : K) → StepsDesk asks desk exchange.asked between → RunsDesk asks between responses desk'
      → ((d : K) (here : DeskAt) → Stands d here.state → IsOver basis (disk_of d) here → RunsDesk asks d responses desk' → Reaches basis final here responses (disk_of desk') (Stands desk'))
      → Reaches basis final first (met exchange ∷ responses) (disk_of desk') (Stands desk')
  answered final exchange responses desk desk' first stands over None e between step runs more =
      let same : between ≡ desk = subst (λ a. StepsDesk asks desk a between) e step in
      let rest = more desk first stands over (subst (λ d. RunsDesk asks d responses desk') same runs) in
      let stays : StepsDesk (Answers basis final.since) first exchange.asked first = subst (λ a. StepsDesk (Answers basis final.since) first a first) (sym e) refl in
      record {
        last = rest.last;
        now = rest.now;
        over = rest.over;
        no_fewer = rest.no_fewer;
        faults = subst (λ (n : ℕ). RoseBy (n + store_faults responses) first.faults rest.last.faults) (sym (ap (λ a. option_map_or (λ (asking : Asking). store_fault asking.receipt.reply) a 0) e))
            (no_more (store_faults responses) first.faults rest.last.faults rest.faults);
        runs = λ on out. (first, stays, rest.runs on out);
        outlives = rest.outlives;
      }
  answered final exchange responses desk desk' first stands over (Some asking) e between step runs more =
      let one = steps desk between asking.command asking.receipt (subst (λ a. StepsDesk asks desk a between) e step) first.state stands in
      let here = second final first desk between asking.command asking.receipt one.0 over one.2 in
      let rest = more between here one.1 (over_second final first desk between asking.command asking.receipt one.0 over one.2) runs in
      let to_final : GoesOn (disk_of desk') final → GoesOn (disk_of between) final =
      λ on. GoesOn-append (disk_of between) (disk_of desk') final (goes_on responses between desk' one.0 one.1 runs) on in
      record {
        last = rest.last;
        now = rest.now;
        over = rest.over;
        no_fewer = omega (arith, more_faults final first desk between asking.command asking.receipt one.0 over one.2, rest.no_fewer);
        faults = subst (λ (n : ℕ). RoseBy (n + store_faults responses) first.faults rest.last.faults) (sym (ap (λ a. option_map_or (λ (asking : Asking). store_fault asking.receipt.reply) a 0) e))
            (rose-trans (store_fault asking.receipt.reply) (store_faults responses) first.faults here.faults rest.last.faults
            (counted final first desk between asking.command asking.receipt one.0 over one.2) rest.faults rest.no_fewer);
        runs = λ on out. (
          here,
          subst (λ a. StepsDesk (Answers basis final.since) first a here) (sym e) (answers final first desk between asking.command asking.receipt one.0 over one.2 (to_final on) (rest.outlives on out)),
          rest.runs on out,
        );
        outlives = λ on out. outlives_first final first desk between asking.command asking.receipt one.0 over one.2 (to_final on) (rest.outlives on out);
      }

  pub reaches : (final : DiskTold) (responses : List Response) (desk desk' : K) (first : DeskAt) → Stands desk first.state → IsOver basis (disk_of desk) first
      → RunsDesk asks desk responses desk' → Reaches basis final first responses (disk_of desk') (Stands desk')
  reaches final [] desk desk' first stands over runs = subst (λ d. Reaches basis final first [] (disk_of d) (Stands d)) (sym runs) (record {
    last = first;
    now = stands;
    over = over;
    no_fewer = omega arith;
    faults = inl (omega arith);
    runs = λ on out. refl;
    outlives = λ on out. out;
  })
  reaches final (refused error ∷ responses) desk desk' first stands over runs =
      let rest = reaches final responses desk desk' first stands over runs in
      record {
        last = rest.last;
        now = rest.now;
        over = rest.over;
        no_fewer = rest.no_fewer;
        faults = rest.faults;
        runs = rest.runs;
        outlives = rest.outlives;
      }
  reaches final (met exchange ∷ responses) desk desk' first stands over runs =
      answered final exchange responses desk desk' first stands over exchange.asked refl runs.0 runs.1 runs.2
      (λ d here st ov r. reaches final responses d desk' here st ov r)
