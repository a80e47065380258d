-- The service over a book is one over its log.
use Rattle.std.proofs.Common.{◌≡◌, ℕ, Bool, IsTrue, List, [], ◌∷◌, ◌++◌, Option, None, Some, IfSome, refl, sym, ap, ◌∙◌, subst, inl, inr, ⊎_elim, append-nil, append_assoc, arith}
use Rattle.std.specs.Prelude.{is_some}
use Rattle.std.proofs.Math.Logic.{∥∥₁_elim, ∥∥₁_map}
use Rattle.std.proofs.lemmas.List.{append_cancel_left, map-append}
use Rattle.soc_raw.specs.Record.{Crash}
use Rattle.soc_schema.specs.declared.permission.Permissions.{Permissions}
use Rattle.soc_schema.specs.declared.reporter.Reporter as reporter
use Rattle.soc_edge.specs.Disk.{DiskTold, IsDisk, GoesOn}
use Rattle.soc_edge.specs.declared.disk.Disk as disk
use Rattle.soc_edge.proofs.Disks.{GoesOn-append}
use Rattle.soc_edge.specs.Told.{Told}
use Rattle.soc_edge.specs.Ahead.{Outlook}
use Rattle.soc_ledger.specs.Due.{due_ids}
use Rattle.soc_pool.specs.declared.pass.RingEnd.{RingEnd}
use Rattle.soc_vault.specs.Openings.{StandsSince}
use Rattle.soc_hall.specs.Asked.{Closes as ClosesHall}
use Rattle.soc_desk.specs.declared.desk.Command.{Command}
use Rattle.soc_desk.specs.declared.desk.Receipt.{Receipt}
use Rattle.soc_desk.specs.Basis.{Basis}
use Rattle.soc_desk.specs.Keeps.{KeepAllows}
use Rattle.soc_desk.specs.Log.{Change, events}
use Rattle.soc_desk.specs.Runs.{Answers, DeskAt}
use Rattle.soc_desk.specs.State.{State, Allowed}
use Rattle.soc_book.specs.declared.book.Book.{Book}
use Rattle.soc_book.specs.Books.{StandsFor, disk_of, limits_of, reporter_of}
use Rattle.soc_book.specs.Openings.{IsBasisOf, OpensBook}
use Rattle.soc_service.specs.declared.change.Change.{Change as Turned}
use Rattle.soc_service.specs.Changes.{events_in, kept_in}
use Rattle.soc_crew.specs.declared.crew.Crew.{Crew}
use Rattle.soc_turns.specs.Logs.{change_of, changes_of}
use Rattle.soc_turns.specs.Runs.{HasRun, RunsTurns}
use Rattle.soc_turns.proofs.Logs.{events_are, log_is}
use Rattle.soc_turns.proofs.Runs.{RunsOn, runs_on}
use Rattle.soc_replay.proofs.RunLemmas.{keeping_has}
use Rattle.soc_replay.specs.declared.ending.RunEnd.{RunEnd}
use Rattle.soc_replay.specs.declared.ending.RunEnd.TheVariants as R
use Rattle.soc_replay.specs.declared.setup.Setup.{Setup}
use Rattle.soc_replay.specs.Serving.{Service, SurvivesStops, service}
use Rattle.soc_replay.specs.Ends as run
use Rattle.soc_replay.specs.Opening.{OpensNot}
use Rattle.soc_edge.specs.World.{Surroundings, surroundings}
use Rattle.soc_serve.specs.declared.ending.HostEnd.{HostEnd}
use Rattle.soc_serve.specs.declared.ending.HostEnd.TheVariants as H
use Rattle.soc_serve.specs.declared.sweep.SweepFault.TheVariants as S
use Rattle.soc_serve.specs.Ends.{status_of}
use Rattle.soc_serve.specs.Hosts.{Closes, HostsDesk, IsRight, LeavesRing}
use Rattle.soc_serve.specs.Sweep.{FailsSweep}
use Rattle.soc_serve.specs.inner.Serving.{ClosesBook, ServesDesk, desk_at}
use Rattle.soc_serve.specs.inner.Sweeping.{LeavesMore}
use Rattle.soc_serve.proofs.Begun.{HasTurned, basis as basis_by, begun as begun_by, begun_at, log_by, is_basis as is_basis_by, opened as opened_by, run_of, seated_of}
use Rattle.soc_serve.proofs.Stops.{nothing_done}
use Rattle.soc_serve.proofs.Sweeps.{still}

-- ---- the end

-- by a desk whose count of faults is the disk's
closes : (before after : Surroundings) (middle : DiskTold) (end : HostEnd) (basis : Basis) (served : DeskAt) (swept : State) → served.faults ≡ middle.faults
    → Closes (surroundings before.streams middle before.outlook) after end basis (desk_at served.state middle) swept → Closes before after end basis served swept
closes before after middle (H.Before end) basis served swept same ends = absurd ends
closes before after middle (H.Swept fault) basis served swept same ends =
    (subst (λ (n : ℕ). FailsSweep basis served.state n fault swept after.disk.faults) (sym same) ends.0, ends.1)
closes before after middle (H.Lines fault) basis served swept same ends = ends
closes before after middle H.Failed basis served swept same ends = ends
closes before after middle H.Done basis served swept same ends = ends

as_served : (by : Service) (crew : Crew) (kept : ℕ) (ring : Option RingEnd) (before after : Surroundings) (end : HostEnd)
    → ∥ HostsDesk by crew kept ring before after end ∥₁ → ServesDesk by crew kept ring before after end
as_served by crew kept ring before after (H.Before end) hosts = absurd (∥∥₁_elim hosts (λ x y. absurd x) (λ (desk : HostsDesk by crew kept ring before after (H.Before end)). desk.closes))
as_served by crew kept ring before after (H.Swept fault) hosts = hosts
as_served by crew kept ring before after (H.Lines fault) hosts = hosts
as_served by crew kept ring before after H.Failed hosts = hosts
as_served by crew kept ring before after H.Done hosts = hosts

-- ---- what was served

-- what a run has added to a log
pub run_added : (basis : Basis) (left : ℕ → List ℕ → Type 0) (turns : List (Command × Receipt)) (first last : DeskAt) → RunsTurns (Answers basis left) first turns last
    → (added : List Change) × (last.state.log ≡ first.state.log ++ added)
run_added basis left [] first last runs = ([], ap (λ (d : DeskAt). d.state.log) runs ∙ sym (append-nil first.state.log))
run_added basis left (turn ∷ turns) first last (between, answers, runs) =
    let rest = run_added basis left turns between last runs in
    (answers.gains.piece ++ rest.0, rest.1 ∙ (ap (λ (l : List Change). l ++ rest.0) answers.gains.behind ∙ append_assoc first.state.log answers.gains.piece rest.0))

-- what the threads saw of it has the same kept changes
same_kept : (basis : Basis) (log added : List Change) (seen : List Turned) (kept : ℕ) → changes_of basis (log ++ added) ≡ changes_of basis log ++ seen → kept_in (events_in seen) ≡ kept
    → kept_in (events basis added) ≡ kept
same_kept basis log added seen kept is count =
    ap (λ l. kept_in l) (sym (events_are basis added))
    ∙ (ap (λ l. kept_in (events_in l)) (append_cancel_left (changes_of basis log) (changes_of basis added) seen (sym (map-append (change_of basis) log added) ∙ is)) ∙ count)

module _ {D R : Type 0} {d : disk.Ghosts D} {r : reporter.Ghosts R} (told : Bool) (by : R) (stack_of : Permissions → Crash → Option (List ℕ)) (setup : Setup) (crew : Crew) (kept : ℕ) (ring : Option RingEnd) (before after : Surroundings) (end : HostEnd)
    (steady : is_some before.disk.content ≡ told) (first second : Book D R d r) (reporter_is : reporter_of first ≡ by) (limits_are : limits_of first ≡ setup.limits)
    (to_opened : GoesOn before.disk (disk_of first))
    (leaves_ring : LeavesRing (due_ids (events_in (log_by told first))) crew (status_of end) ring)
    (opens : (basis : Basis) → IsBasisOf (r.row_of by) (r.digest_of by) setup.limits before.disk.content basis → OpensBook basis before.disk (disk_of first) (StandsFor basis first))
    (ends : (basis : Basis) (state : State) → basis.row_of ≡ r.row_of (reporter_of second) → basis.digest ≡ r.digest_of (reporter_of second) → StandsFor basis second state
    → (swept : State) × (IsTrue basis.is_told → (image : List ℕ) → after.disk.images image → Allowed swept image)
    × ClosesBook (surroundings before.streams (disk_of second) before.outlook) after end basis state swept) where
  abbrev basis : Basis
  basis = basis_by told before.disk steady by setup.limits first second reporter_is limits_are opens

  abbrev opened : OpensBook basis before.disk (disk_of first) (StandsFor basis first)
  opened = opened_by told before.disk steady by setup.limits first second reporter_is limits_are opens

  abbrev begun : DeskAt
  begun = begun_by told before.disk steady by setup.limits first second reporter_is limits_are opens

  module _ (turned : HasTurned told first second kept) where
    abbrev ran : HasRun basis first second begun
    ran = run_of told before.disk steady by setup.limits first second reporter_is limits_are opens kept turned

    abbrev state : State
    state = ran.last.state

    abbrev over : (swept : State) × (IsTrue basis.is_told → (image : List ℕ) → after.disk.images image → Allowed swept image)
        × ClosesBook (surroundings before.streams (disk_of second) before.outlook) after end basis state swept
    over = ends basis state (ap r.row_of (sym (turned.same_reporter ∙ reporter_is))) (ap r.digest_of (sym (turned.same_reporter ∙ reporter_is))) ran.over.stands

    abbrev leaves : LeavesMore basis state (disk_of second) over.0 after.disk
    leaves = over.2.leaves

    from_first : GoesOn (disk_of first) after.disk
    from_first = GoesOn-append (disk_of first) (disk_of second) after.disk ran.goes_on leaves.goes_on

    keeping : IsTrue basis.is_told → (image : List ℕ) → after.disk.since ran.last.moment image → KeepAllows state over.0 image
    keeping is image left = ⊎_elim (λ early. inl (ran.over.holds is image early)) (λ late. (leaves.each is).each image late)
        (leaves.goes_on.nothing_else ran.last.moment image ran.over.within left)

    runs : RunsOn basis (disk_of second) after.disk leaves.goes_on begun ran.turns ran.last
    runs = runs_on basis (disk_of second) after.disk leaves.goes_on ran.turns begun ran.last ran.runs ran.over.within
        (λ is image left. keeping_has state over.0 image ((leaves.each is).each image left))

    added : (added : List Change) × (state.log ≡ opened.log ++ added)
    added = run_added basis (disk_of second).since ran.turns begun ran.last ran.runs

    seated : (closes : ClosesHall IsRight (changes_of basis state.log) basis turned.seats) × (closes.opening ≡ changes_of basis opened.log)
    seated =
        seated_of told before.disk steady by setup.limits first second reporter_is limits_are opens kept turned
        (changes_of basis opened.log) (changes_of basis state.log) (log_is opened.now) (log_is ran.over.stands)

    seen : changes_of basis (opened.log ++ added.0) ≡ changes_of basis opened.log ++ turned.gains.piece
    seen =
        ap (changes_of basis) (sym added.1)
        ∙ (sym (log_is ran.over.stands) ∙ (turned.gains.behind ∙ ap (λ (l : List Turned). l ++ turned.gains.piece) (log_is opened.now)))

    survives : (content : Option (List ℕ)) (stands : IfSome content (λ bytes. StandsSince before.disk (disk_of first) bytes opened.entries)) → (IsTrue (is_some content) → IsTrue told)
        → IfSome content (λ bytes. SurvivesStops before.disk after.disk bytes (begun_at basis before.disk first opened content stands) ran.last (KeepAllows state over.0) over.0)
    survives None stands told_so = tt
    survives (Some bytes) stands told_so = record {
      begins = stands.begins;
      ends = let within = ran.over.within in let later = leaves.goes_on.later in omega (arith, within, later);
      until = λ image left. ⊎_elim
          (λ early. ⊎_elim (λ was. inl (from_first.keeps stands.moment image stands.ends was)) (λ torn. inr torn) (stands.until image early))
          (λ late. inl (from_first.wider stands.moment (disk_of first).moment image stands.ends late))
          (from_first.nothing_else before.disk.moment image to_opened.later left);
      keeping = keeping (told_so refl);
      now = over.1 (told_so refl);
    }

    desk_of : HostsDesk (service (r.row_of by) (r.digest_of by) stack_of setup) crew kept ring before after end
    desk_of = record {
      opening = record {
        basis = basis;
        basis_is = is_basis_by told before.disk steady by setup.limits first second reporter_is limits_are opens;
        told = sym steady;
        entries = opened.entries;
        log = opened.log;
        found = opened.found;
        opens = opened.opens;
      };
      opened = begun;
      opened_as = refl;
      served = ran.last;
      turns = ran.turns;
      runs = runs.runs;
      legal = ran.over.stands.legal;
      added = added.0;
      behind = added.1;
      kept_are = same_kept basis opened.log added.0 turned.gains.piece kept seen turned.gains.kept_are;
      seats = turned.seats;
      seated = seated.0;
      seated_from = seated.1;
      jobs = subst (λ l. LeavesRing (due_ids l) crew (status_of end) ring) (ap (λ l. events_in l) (log_is opened.now) ∙ events_are basis opened.log) leaves_ring;
      swept = over.0;
      closes = closes before after (disk_of second) end basis ran.last over.0 ran.over.faults_are over.2.ends;
      no_fewer = to_opened.faults_never_fall;
      goes_on = GoesOn-append before.disk (disk_of first) after.disk to_opened from_first;
      survives = survives before.disk.content opened.stands (λ is. sym steady ∙ is);
    }

  pub serves_desk : ∥ HasTurned told first second kept ∥₁ → ServesDesk (service (r.row_of by) (r.digest_of by) stack_of setup) crew kept ring before after end
  serves_desk turned =
      as_served (service (r.row_of by) (r.digest_of by) stack_of setup) crew kept ring before after end (∥∥₁_map turned (λ (t : HasTurned told first second kept). desk_of t))

-- nothing was swept
pub unswept : (told : Told) (disk : DiskTold) (early late : Outlook) → IsDisk disk → (basis : Basis) (state : State)
    → (IsTrue basis.is_told → (image : List ℕ) → disk.images image → Allowed state image)
    → ClosesBook (surroundings told disk early) (surroundings told disk late) (H.Swept S.NoMemory) basis state state
unswept told disk early late is basis state allowed = record {
  ends = (record { behind = still state; cause = λ is. cc; stage = inl (refl, refl) }, refl);
  leaves = nothing_done basis state disk is allowed;
}

-- the disk that was lent ends as this one
pub served_on : {D : Type 0} (state : D → DiskTold) (final here : D) → final ≡ here
    → (by : Service) (crew : Crew) (kept : ℕ) (ring : Option RingEnd) (before : Surroundings) (streams : Told) (ahead : Outlook) (end : HostEnd)
    → ServesDesk by crew kept ring before (surroundings streams (state here) ahead) end
    → ServesDesk by crew kept ring before (surroundings streams (state final) ahead) end
served_on state final here same by crew kept ring before streams ahead end serves =
    subst (λ d. ServesDesk by crew kept ring before (surroundings streams (state d) ahead) end) (sym same) serves

-- where a journal isn't opened no listener was asked, and nothing was served
pub not_served : (before after : Surroundings) (end : RunEnd) → OpensNot before after end → (run.status_of end ≡ 6 → ⊥) × (run.status_of end ≡ 0 → ⊥)
not_served before after R.JournalRefused not = ((λ is. omega (arith, is)), (λ is. omega (arith, is)))
not_served before after R.LineFault not = ((λ is. omega (arith, is)), (λ is. omega (arith, is)))
not_served before after R.OpenFault not = ((λ is. omega (arith, is)), (λ is. omega (arith, is)))
not_served before after R.NoMemory not = ((λ is. omega (arith, is)), (λ is. omega (arith, is)))
not_served before after (R.Served _ _) never = absurd never
not_served before after R.Written never = absurd never
not_served before after R.Usage never = absurd never
not_served before after R.TextRefused never = absurd never
not_served before after R.TreeFault never = absurd never
not_served before after R.MakerFault never = absurd never
not_served before after R.InputFault never = absurd never
