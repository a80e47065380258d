-- Stops of runs end lives.
use Rattle.std.proofs.Common.{◌≡◌, ◌⊎◌, ⊎_elim, inl, inr, ℕ, IsTrue, true, List, [], ◌∷◌, ◌++◌, map, Some, None, sym, ap, subst, ◌∙◌, refl}
use Rattle.soc_edge.specs.Disk.{DiskFailed, DiskTold, GoesOn, LeavesOnly}
use Rattle.soc_journal.specs.Entries.{Entry}
use Rattle.soc_journal.specs.Text.{JournalText}
use Rattle.soc_vault.specs.Openings.{AreEntriesOf}
use Rattle.soc_desk.specs.declared.desk.Command.{Command}
use Rattle.soc_desk.specs.declared.desk.Receipt.{Receipt}
use Rattle.soc_desk.specs.Basis.{Basis}
use Rattle.soc_desk.specs.Batches.{AllFail, AreStored, alone, together}
use Rattle.soc_desk.specs.Keeps.{KeepAllows}
use Rattle.soc_desk.specs.Log.{IsLegal, Kept, keep}
use Rattle.soc_desk.specs.Opens.{as_told, log_of}
use Rattle.soc_desk.specs.Runs.{DeskAt}
use Rattle.soc_desk.specs.State.{Allowed, State, entries_of, settled}
use Rattle.soc_lives.specs.Lives.{Action, asking, storing, failing, Follow, IsFound, IsTransition, LeavesInside, Transition, last_state}
use Rattle.soc_lives.specs.Runs.{AreCarried, EndsBehind, EndsLife, GroupsAreCarried, IsActionOf, IsCarried, KeepingIsCarried, OpensLife, RunsAlong, RunsAreLives, StopsEndLives, actions_of}

abbrev made_of : List (Transition × ℕ) → List Transition
made_of steps = map (λ step. step.0) steps

-- behind one more transition
behind_one : (basis : Basis) (before : State) (transition : Transition) (transitions : List Transition) (image : List ℕ) → IsTransition basis before transition
    → EndsBehind basis transition.after transitions image → EndsBehind basis before (transition ∷ transitions) image
behind_one basis before transition transitions image is ends = record {
  made = transition ∷ ends.made;
  rest = ends.rest;
  whole = ap (λ (ts : List Transition). transition ∷ ts) ends.whole;
  goes = (is, ends.goes);
  cut = ends.cut;
  is_next = ends.is_next;
  leaves = ends.leaves;
}

-- or inside it
inside_one : (basis : Basis) (before : State) (transition : Transition) (transitions : List Transition) (image : List ℕ) → IsTransition basis before transition
    → LeavesInside before transition.action transition.after image → EndsBehind basis before (transition ∷ transitions) image
inside_one basis before transition transitions image is inside =
    record { made = []; rest = transition ∷ transitions; whole = refl; goes = tt; cut = Some transition; is_next = (transitions, refl); leaves = (is, inside) }

module _ (basis : Basis) (found : List ℕ) (opening : List Kept) (is_told : IsTrue basis.is_told) (is_found : IsFound found opening) (legal : IsLegal basis (log_of opening)) where
  ends_life : (transitions : List Transition) (image : List ℕ) → EndsBehind basis (settled (log_of opening)) transitions image → EndsLife basis found opening transitions image
  ends_life transitions image ends = record {
    life = record { basis = basis; opening = opening; transitions = ends.made; cut = ends.cut; image = image };
    lives = record { is_told = is_told; is_found = is_found; legal = legal; goes = ends.goes; ends = ends.leaves };
    basis_is = refl;
    opening_is = refl;
    image_is = refl;
    rest = ends.rest;
    transitions_are = ends.whole;
    is_next = ends.is_next;
  }

module _ (basis : Basis) (left : ℕ → List ℕ → Type 0) (image : List ℕ) where
  ends : (before : State) (begun : ℕ) (steps : List (Transition × ℕ)) → AreCarried basis left before begun steps → left begun image → EndsBehind basis before (made_of steps) image
  ends before begun [] carried now = record { made = []; rest = []; whole = refl; goes = tt; cut = None; is_next = tt; leaves = carried image now }
  ends before begun (step ∷ steps) carried now = ⊎_elim
      (λ inside. inside_one basis before step.0 (made_of steps) image carried.0.is inside)
      (λ later. behind_one basis before step.0 (made_of steps) image carried.0.is (ends step.0.after step.1 steps carried.1 later))
      (carried.0.survives image now)

pub stops_end_lives : (left : ℕ → List ℕ → Type 0) → StopsEndLives left
stops_end_lives left basis found opening begun steps is_told is_found legal carried image now =
    ends_life basis found opening is_told is_found legal (made_of steps) image (ends basis left image (settled (log_of opening)) begun steps carried now)

-- ---- a run of a desk

module _ (basis : Basis) (left : ℕ → List ℕ → Type 0) (is_told : IsTrue basis.is_told) (served : DeskAt) (later : List Transition)
    (goes : Follow basis served.state later) (stops : (image : List ℕ) → left served.moment image → EndsBehind basis served.state later image) where
  -- the transitions from this desk on, whose commands these are
  record Goes (before : DeskAt) (asked : List (Command × Receipt)) : Type 0 where
    made : List Transition
    actions_are : map (λ transition. transition.action) made ≡ actions_of asked ++ map (λ transition. transition.action) later
    last_is : last_state before.state made ≡ last_state served.state later
    follows : Follow basis before.state made
    ends_at : (image : List ℕ) → left before.moment image → EndsBehind basis before.state made image

  goes_along : (before : DeskAt) (asked : List (Command × Receipt)) → RunsAlong basis left before asked served → Goes before asked
  goes_along before [] runs = subst (λ (d : DeskAt). Goes d []) runs (record { made = later; actions_are = refl; last_is = refl; follows = goes; ends_at = stops })
  goes_along before (one ∷ asked) (between, answers, runs) =
      let rest = goes_along between asked runs in
      let first : Transition = record { action = asking one.0 one.1.reply; after = between.state } in
      let is : IsTransition basis before.state first = (answers.step is_told, answers.legal) in
      record {
        made = first ∷ rest.made;
        actions_are = ap (λ (actions : List Action). first.action ∷ actions) rest.actions_are;
        last_is = rest.last_is;
        follows = (is, rest.follows);
        ends_at = λ image now. ⊎_elim
            (λ inside. inside_one basis before.state first rest.made image is inside)
            (λ late. behind_one basis before.state first rest.made image is (rest.ends_at image late))
            (answers.survives is_told image now);
      }

pub runs_are_lives : (left : ℕ → List ℕ → Type 0) → RunsAreLives left
runs_are_lives left basis found opening opened served asked later is_told is_found legal opened_as runs goes stops =
    let run = goes_along basis left is_told served later goes stops opened asked runs in
    let last_is = ap (λ (s : State). last_state s run.made) (sym opened_as) ∙ run.last_is in
    record {
      transitions = run.made;
      actions_are = run.actions_are;
      last_is = last_is;
      ends = λ image allowed. record {
        is_told = is_told;
        is_found = is_found;
        legal = legal;
        goes = subst (λ (s : State). Follow basis s run.made) opened_as run.follows;
        ends = subst (λ (s : State). Allowed s image) (sym last_is) allowed;
      };
      stops = λ image now. ends_life basis found opening is_told is_found legal run.made image
          (subst (λ (s : State). EndsBehind basis s run.made image) opened_as (run.ends_at image now));
    }

told_all : (kept : List Kept) → map (as_told true) kept ≡ kept
told_all [] = refl
told_all (change ∷ kept) = ap (λ (k : List Kept). change ∷ k) (told_all kept)

found_kept : (found : List ℕ) (entries : List Entry) (kept : List Kept) → entries ≡ entries_of kept → AreEntriesOf found entries → IsFound found kept
found_kept found entries [] are (inl (none, nothing)) = inl (none, refl)
found_kept found entries (change ∷ kept) are (inl (none, nothing)) = absurd (apart (sym nothing ∙ are)) where
  apart : [] ≡ entries_of (change ∷ kept) → ⊥
  apart same = cc
found_kept found entries kept are (inr text) = inr (subst (λ (es : List Entry). JournalText es found) are text)

pub opens_life : OpensLife
opens_life basis found entries log is_told are opens = (
  opens.kept,
  opens.log_is ∙ ap log_of (ap (λ b. map (as_told b) opens.kept) is_told ∙ told_all opens.kept),
  found_kept found entries opens.kept opens.are.entries_are are,
  record { events_legal = opens.are.legal.events_legal; sound = opens.are.legal.sound; told = λ is. opens.are.legal.told refl },
)

-- ---- what is done over a disk

module _ (disk disk' last : DiskTold) where
  -- a stop since the beginning is one until the answer, or one since then
  meanwhile : GoesOn disk disk' → GoesOn disk' last → (image : List ℕ) → last.since disk.moment image → disk'.since disk.moment image ⊎ last.since disk'.moment image
  meanwhile goes_on goes_further image now = goes_further.nothing_else disk.moment image goes_on.later now

  leaves_first : (P : List ℕ → Type 0) → GoesOn disk disk' → LeavesOnly disk disk' P → GoesOn disk' last → (image : List ℕ) → last.since disk.moment image → P image ⊎ last.since disk'.moment image
  leaves_first P goes_on leaves goes_further image now = by (meanwhile goes_on goes_further image now) where
    by : disk'.since disk.moment image ⊎ last.since disk'.moment image → P image ⊎ last.since disk'.moment image
    by (inl then) = inl (leaves.each image then)
    by (inr later) = inr later

  pub groups_are_carried : GroupsAreCarried disk disk' last
  groups_are_carried basis before (alone command receipt) after is_told asks goes_further = (
    asking command receipt.reply,
    refl,
    record { is = (asks.step is_told, asks.legal); survives = leaves_first (λ image. Allowed before image ⊎ Allowed after image) asks.goes_on (asks.survives is_told) goes_further },
  )
  groups_are_carried basis before (together raws receipts) after is_told stores goes_further = by stores.ends where
    survives : (image : List ℕ) → last.since disk.moment image → (Allowed before image ⊎ Allowed after image) ⊎ last.since disk'.moment image
    survives = leaves_first (λ image. Allowed before image ⊎ Allowed after image) stores.goes_on (stores.survives is_told) goes_further

    by : ((after ≡ settled (stores.log ++ map keep stores.changes)) × AreStored raws receipts)
        ⊎ ((after ≡ record { log = stores.log; doubt = stores.changes }) × AllFail raws receipts × DiskFailed disk disk')
        → (action : Action) × IsActionOf (together raws receipts) action × IsCarried basis last.since before disk.moment (record { action = action; after = after }) disk'.moment
    by (inl ends) = (
      storing raws,
      inl (refl, ends.1),
      record { is = (record { log = stores.log; settles = stores.settles; changes = stores.changes; accepts = stores.accepts; after_is = ends.0 }, stores.legal); survives = survives },
    )
    by (inr ends) = (
      failing raws,
      inr (refl, ends.1),
      record { is = (record { log = stores.log; settles = stores.settles; changes = stores.changes; accepts = stores.accepts; after_is = ends.0 }, stores.legal); survives = survives },
    )

  pub keeping_is_carried : KeepingIsCarried disk disk' last
  keeping_is_carried basis before reply after step legal goes_on leaves goes_further =
      record { is = (step, legal); survives = leaves_first (KeepAllows before after) goes_on leaves goes_further }
