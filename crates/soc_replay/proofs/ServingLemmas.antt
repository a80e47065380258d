-- A session over a book is one over its log, which every stop of the machine outlives.
use Rattle.std.proofs.Common.{◌≡◌, ◌⊎◌, ℕ, ◌≤◌, Bool, true, false, IsTrue, is_some, IfSome, List, [], ◌∷◌, map, Option, None, Some, refl, sym, ap, ◌∙◌, subst, inl, inr, ⊎_elim, arith}
use Rattle.soc_raw.specs.Record.{Crash}
use Rattle.soc_schema.specs.declared.permission.Permissions.{Permissions}
use Rattle.soc_schema.specs.declared.value.Cell.{Cell}
use Rattle.soc_edge.specs.Ahead.{Outlook}
use Rattle.soc_edge.specs.Disk.{DiskTold, IsDisk, DiskFailed, GoesOn}
use Rattle.soc_edge.specs.Faults.{Rose, last_count}
use Rattle.soc_edge.proofs.Disks.{GoesOn-append}
use Rattle.soc_edge.specs.Told.{Told, HasCause, WriteFailed}
use Rattle.soc_journal.specs.Entries.{Entry}
use Rattle.soc_journal.specs.Text.{JournalText}
use Rattle.soc_vault.specs.Openings.{StandsSince}
use Rattle.soc_desk.specs.declared.desk.Command.{Command}
use Rattle.soc_desk.specs.declared.desk.Receipt.{Receipt}
use Rattle.soc_desk.specs.declared.desk.Reply.{Reply}
use Rattle.soc_desk.proofs.Views.{true_is_not_false}
use Rattle.soc_desk.specs.Asks.{Asks}
use Rattle.soc_desk.specs.Basis.{Basis}
use Rattle.soc_desk.specs.Laws.{HasAll}
use Rattle.soc_desk.specs.Log.{Change, Kept}
use Rattle.soc_desk.specs.Opens.{OpensWith, as_told, log_of}
use Rattle.soc_desk.specs.State.{State, Allowed, entries_of, kept_of, settled}
use Rattle.soc_book.proofs.Kept.{kept_of-log, told_all}
use Rattle.soc_book.specs.Openings.{IsBasisOf, OpensBook}
use Rattle.soc_replay.proofs.RunLemmas.{IsOver, Outlives, Reaches, goes_on, has_kept, keeping_has, reaches}
use Rattle.soc_session.specs.declared.ending.SessionEnd.{SessionEnd}
use Rattle.soc_session.specs.declared.ending.SessionEnd.TheVariants.{Ended, Closed, Stopped, Refused, ReadFault, WriteFault, TooLong, NoMemory}
use Rattle.soc_desk.specs.Runs.{DeskAt}
use Rattle.soc_replay.specs.Blames.{RoseBy, store_faults}
use Rattle.soc_session.specs.Desk.{Asking, StepsDesk, Ways, ways}
use Rattle.soc_session.specs.Session.{Around, Response, met, refused, RunsDesk, Serves, around}
use Rattle.soc_replay.specs.declared.ending.Keeping.{Keeping}
use Rattle.soc_replay.specs.declared.ending.Keeping.TheVariants as K
use Rattle.soc_replay.specs.declared.ending.RunEnd.{RunEnd}
use Rattle.soc_replay.specs.declared.ending.RunEnd.TheVariants as R
use Rattle.soc_replay.specs.declared.setup.Setup.{Setup}
use Rattle.soc_replay.specs.Ends.{served_status, session_status, status_of}
use Rattle.soc_replay.specs.Opening.{OpensNot}
use Rattle.soc_edge.specs.World.{Surroundings, surroundings}
use Rattle.soc_replay.specs.Replay.{RunsDesk as DeskRuns}
use Rattle.soc_replay.specs.Serving.{KeepLeaves, KeepsBy, ServesJournal, Service, SurvivesStops, keep_reply, keeps_reports, service}
use Rattle.soc_replay.specs.inner.Serving.{KeepsDisk}

-- ---- the basis of a run

abbrev pub basis_of : (Crash → List Cell) → Option (List ℕ) → Setup → Option (List ℕ) → Basis
basis_of row_of digest setup told = record {
  row_of = row_of;
  digest = digest;
  journal_bytes = setup.limits.journal_bytes;
  crashes = setup.limits.crashes;
  is_told = is_some told;
}

pub some_told : (told : Option (List ℕ)) → IsTrue (is_some told) → Rattle.std.specs.Prelude.IsSome told
some_told None never = absurd (true_is_not_false (sym never))
some_told (Some bytes) is = refl

-- ---- the journal that was opened

allowed_by : (b : Bool) (kept : List Kept) (entries : List Entry) (image : List ℕ) → IsTrue b → entries ≡ entries_of kept → JournalText entries image
    → Allowed (settled (log_of (map (as_told b) kept))) image
allowed_by false kept entries image never are text = absurd (true_is_not_false (sym never))
allowed_by true kept entries image is are text =
    let all : kept_of (log_of (map (as_told true) kept)) ≡ kept = kept_of-log (map (as_told true) kept) ∙ told_all kept in
    inl (subst (λ (es : List Entry). JournalText es image) (are ∙ sym (ap entries_of all)) text)

-- an image of the entries that were opened is allowed at first
opened_allows : (basis : Basis) (entries : List Entry) (log : List Change) → OpensWith basis entries log → IsTrue basis.is_told → (image : List ℕ) → JournalText entries image
    → Allowed (settled log) image
opened_allows basis entries log opens told image text =
    subst (λ (l : List Change). Allowed (settled l) image) (sym opens.log_is) (allowed_by basis.is_told opens.kept entries image told opens.are.entries_are text)

-- ---- the keeping of reports

keeps_by : (basis : Basis) (last : State) (disk disk' : DiskTold) (said : Option Reply) (kept : State) → KeepsDisk basis last disk said kept disk'
    → KeepsBy basis last disk.faults disk'.faults said kept
keeps_by basis last disk disk' None kept is = is.0
keeps_by basis last disk disk' (Some reply) kept is =
    (record { piece = is.piece; behind = is.behind; grows = is.grows; legal = is.legal; step = is.step }, is.fault)

keep_goes_on : (basis : Basis) (last : State) (disk disk' : DiskTold) (said : Option Reply) (kept : State) → KeepsDisk basis last disk said kept disk' → GoesOn disk disk'
keep_goes_on basis last disk disk' None kept is = is.1.goes_on
keep_goes_on basis last disk disk' (Some reply) kept is = is.goes_on

-- what a stop may leave while reports are kept, and afterwards
module _ (basis : Basis) (last kept : State) (disk disk' : DiskTold) where
  leaves_first : (said : Option Reply) → KeepsDisk basis last disk said kept disk' → (image : List ℕ) → Allowed last image → KeepLeaves last said kept image
  leaves_first None is image allowed = subst (λ (s : State). Allowed s image) (sym is.0) allowed
  leaves_first (Some reply) is image allowed = inl allowed

  keep_leaves : (said : Option Reply) → KeepsDisk basis last disk said kept disk' → IsTrue basis.is_told
      → ((image : List ℕ) → disk.images image → Allowed last image) → (image : List ℕ) → disk'.since disk.moment image → KeepLeaves last said kept image
  keep_leaves None is told allowed image since = leaves_first None is image (allowed image (is.1.any_moment.each image since))
  keep_leaves (Some reply) is told allowed image since = (is.survives told).each image since

  leaves_kept : (said : Option Reply) → KeepsDisk basis last disk said kept disk' → (image : List ℕ) → KeepLeaves last said kept image → HasAll (kept_of last.log) image
  leaves_kept None is image leaves = has_kept last image (subst (λ (s : State). Allowed s image) is.0 leaves)
  leaves_kept (Some reply) is image leaves = keeping_has last kept image leaves

keep_allows : (basis : Basis) (last : State) (disk disk' : DiskTold) (said : Option Reply) (kept : State) → KeepsDisk basis last disk said kept disk' → IsTrue basis.is_told
    → ((image : List ℕ) → disk.images image → Allowed last image) → (image : List ℕ) → disk'.images image → Allowed kept image
keep_allows basis last disk disk' None kept is told allowed image now = subst (λ (s : State). Allowed s image) (sym is.0) (allowed image (is.1.images image now))
keep_allows basis last disk disk' (Some reply) kept is told allowed image now = is.allowed told image now

-- ---- the whole

module _ {K : Type 0} (asks : K → Command → Receipt → K → Type 0) (disk_of : K → DiskTold) (sound : (desk : K) → IsDisk (disk_of desk))
    (row_of : Crash → List Cell) (digest : Option (List ℕ)) (Same : K → Type 0) (Stands : K → Basis → State → Type 0)
    (steps : (desk desk' : K) (command : Command) (receipt : Receipt) → asks desk command receipt desk' → Same desk
    → Same desk' × ((basis : Basis) (state : State) → basis.row_of ≡ row_of → Stands desk basis state
    → (after : State) × Stands desk' basis after × Asks basis state (disk_of desk) command receipt after (disk_of desk'))) where
  module _ (setup : Setup) (stack_of : Permissions → Crash → Option (List ℕ)) (before after : Surroundings) (first second : K) (end : SessionEnd) (keeping : Keeping) (window : List ℕ)
      (same : Same first)
      (opens : (basis : Basis) → IsBasisOf row_of digest setup.limits before.disk.content basis → OpensBook basis before.disk (disk_of first) (Stands first basis))
      (to_opened : GoesOn before.disk (disk_of first))
      (serves : Serves asks (ways setup.rules stack_of) (around before.streams first before.outlook) (around after.streams second after.outlook) window end)
      (keeps : Same second → (basis : Basis) (state : State) → basis.row_of ≡ row_of → basis.digest ≡ digest → Stands second basis state
      → (kept : State) × KeepsDisk basis state (disk_of second) (keep_reply keeping) kept after.disk)
      (where_ended : is_some (keep_reply keeping) ≡ keeps_reports end) where
    abbrev basis : Basis
    basis = basis_of row_of digest setup before.disk.content

    basis_is : IsBasisOf row_of digest setup.limits before.disk.content basis
    basis_is = record { rows = refl; digest_is = refl; bytes = refl; crashes_are = refl; tells = some_told before.disk.content }

    opened : OpensBook basis before.disk (disk_of first) (Stands first basis)
    opened = opens basis basis_is

    -- the moment at which the journal stood, and where the disk tells nothing that at which it was open
    abbrev moment_of : (content : Option (List ℕ)) → IfSome content (λ bytes. StandsSince before.disk (disk_of first) bytes opened.entries) → ℕ
    moment_of None stands = (disk_of first).moment
    moment_of (Some bytes) stands = stands.moment

    abbrev opened_at : (content : Option (List ℕ)) → IfSome content (λ bytes. StandsSince before.disk (disk_of first) bytes opened.entries) → DeskAt
    opened_at content stands = record { state = settled opened.log; moment = moment_of content stands; faults = (disk_of first).faults }

    over_opened : (content : Option (List ℕ)) (stands : IfSome content (λ bytes. StandsSince before.disk (disk_of first) bytes opened.entries))
        → (IsTrue basis.is_told → IsTrue (is_some content)) → IsOver basis (disk_of first) (opened_at content stands)
    over_opened None stands is_told = record { within = omega arith; faults_are = refl; holds = λ told image since. absurd (true_is_not_false (sym (is_told told))) }
    over_opened (Some bytes) stands is_told = record {
      within = stands.ends;
      faults_are = refl;
      holds = λ told image since. opened_allows basis opened.entries opened.log opened.opens told image (stands.each image since);
    }

    abbrev begun : DeskAt
    begun = opened_at before.disk.content opened.stands

    abbrev IsNow : K → State → Type 0
    IsNow desk state = Same desk × Stands desk basis state

    step : (desk desk' : K) (command : Command) (receipt : Receipt) → asks desk command receipt desk' → (state : State) → IsNow desk state
        → (after : State) × IsNow desk' after × Asks basis state (disk_of desk) command receipt after (disk_of desk')
    step desk desk' command receipt asked state now =
        let done = steps desk desk' command receipt asked now.0 in
        let next = done.1 basis state refl now.1 in
        (next.0, (done.0, next.1), next.2)

    reached : Reaches basis after.disk begun serves.responses (disk_of second) (IsNow second)
    reached = reaches asks disk_of sound basis IsNow step after.disk serves.responses first second begun (same, opened.now)
        (over_opened before.disk.content opened.stands (λ told. told)) serves.runs

    session_on : GoesOn (disk_of first) (disk_of second)
    session_on = goes_on asks disk_of sound basis IsNow step serves.responses first second (settled opened.log) (same, opened.now) serves.runs

    kept : (kept : State) × KeepsDisk basis reached.last.state (disk_of second) (keep_reply keeping) kept after.disk
    kept = keeps reached.now.0 basis reached.last.state refl refl reached.now.1

    keep_on : GoesOn (disk_of second) after.disk
    keep_on = keep_goes_on basis reached.last.state (disk_of second) after.disk (keep_reply keeping) kept.0 kept.1

    from_opened : GoesOn (disk_of first) after.disk
    from_opened = GoesOn-append (disk_of first) (disk_of second) after.disk session_on keep_on

    -- as the session leaves the disk, each stop leaves what is allowed
    allowed_last : IsTrue basis.is_told → (image : List ℕ) → (disk_of second).images image → Allowed reached.last.state image
    allowed_last told image now = reached.over.holds told image ((sound second).counts_now reached.last.moment image reached.over.within now)

    in_keeping : IsTrue basis.is_told → (image : List ℕ) → after.disk.since reached.last.moment image → KeepLeaves reached.last.state (keep_reply keeping) kept.0 image
    in_keeping told image left = ⊎_elim
        (λ early. leaves_first basis reached.last.state kept.0 (disk_of second) after.disk (keep_reply keeping) kept.1 image (reached.over.holds told image early))
        (λ late. keep_leaves basis reached.last.state kept.0 (disk_of second) after.disk (keep_reply keeping) kept.1 told (allowed_last told) image late)
        (keep_on.nothing_else reached.last.moment image reached.over.within left)

    outlives : Outlives basis after.disk.since reached.last
    outlives told image left = leaves_kept basis reached.last.state kept.0 (disk_of second) after.disk (keep_reply keeping) kept.1 image (in_keeping told image left)

    survives : (content : Option (List ℕ)) (stands : IfSome content (λ bytes. StandsSince before.disk (disk_of first) bytes opened.entries))
        → (IsTrue (is_some content) → IsTrue basis.is_told)
        → IfSome content (λ bytes. SurvivesStops before.disk after.disk bytes (opened_at content stands) reached.last
        (KeepLeaves reached.last.state (keep_reply keeping) kept.0) kept.0)
    survives None stands is_told = tt
    survives (Some bytes) stands is_told = record {
      begins = stands.begins;
      ends = omega (arith, reached.over.within, keep_on.later);
      until = λ image left. ⊎_elim
          (λ early. ⊎_elim (λ was. inl (from_opened.keeps stands.moment image stands.ends was)) (λ torn. inr torn) (stands.until image early))
          (λ late. inl (from_opened.wider stands.moment (disk_of first).moment image stands.ends late))
          (from_opened.nothing_else before.disk.moment image to_opened.later left);
      keeping = in_keeping (is_told refl);
      now = keep_allows basis reached.last.state (disk_of second) after.disk (keep_reply keeping) kept.0 kept.1 (is_told refl) (allowed_last (is_told refl));
    }

    pub serves_journal : ServesJournal (service row_of digest stack_of setup) before after end keeping
    serves_journal = record {
      opening = record {
        basis = basis;
        basis_is = basis_is;
        told = refl;
        entries = opened.entries;
        log = opened.log;
        found = opened.found;
        opens = opened.opens;
      };
      opened = begun;
      opened_as = refl;
      served = reached.last;
      window = window;
      serves = record {
        responses = serves.responses;
        by_rules = serves.by_rules;
        runs = reached.runs keep_on outlives;
        reads = serves.reads;
        writes = serves.writes;
        hands = serves.hands;
        ends = serves.ends;
      };
      where_ended = where_ended;
      kept = kept.0;
      keeps = subst (λ (n : ℕ). KeepsBy basis reached.last.state n after.disk.faults (keep_reply keeping) kept.0) (sym reached.over.faults_are)
          (keeps_by basis reached.last.state (disk_of second) after.disk (keep_reply keeping) kept.0 kept.1);
      no_fewer = to_opened.faults_never_fall;
      at_most = omega (arith, reached.over.faults_are, keep_on.faults_never_fall);
      blames = reached.faults;
      goes_on = GoesOn-append before.disk (disk_of first) after.disk to_opened from_opened;
      survives = survives before.disk.content opened.stands (λ told. told);
    }

-- ---- the end of a run

-- the disk that was lent ends as this one
pub served_on : {D : Type 0} (state : D → DiskTold) (final here : D) → final ≡ here
    → (by : Service) (before : Surroundings) (streams : Told) (ahead : Outlook) (end : SessionEnd) (keeping : Keeping)
    → ServesJournal by before (surroundings streams (state here) ahead) end keeping
    → ServesJournal by before (surroundings streams (state final) ahead) end keeping
served_on state final here same by before streams ahead end keeping serves =
    subst (λ d. ServesJournal by before (surroundings streams (state d) ahead) end keeping) (sym same) serves

pub runs_not : (by : Service) (before after : Surroundings) (end : RunEnd)
    → OpensNot before after end → DeskRuns by before after end
runs_not by before after R.JournalRefused not = not
runs_not by before after R.LineFault not = not
runs_not by before after R.OpenFault not = not
runs_not by before after R.NoMemory not = not
runs_not by before after (R.Served _ _) never = absurd never
runs_not by before after R.Written never = absurd never
runs_not by before after R.Usage never = absurd never
runs_not by before after R.TextRefused never = absurd never
runs_not by before after R.TreeFault never = absurd never
runs_not by before after R.MakerFault never = absurd never
runs_not by before after R.InputFault never = absurd never

-- where a journal isn't opened the input wasn't read
never_read : (before after : Surroundings) (end : RunEnd) → OpensNot before after end → status_of end ≡ 6 → ⊥
never_read before after R.JournalRefused not is = omega (arith, is)
never_read before after R.LineFault not is = omega (arith, is)
never_read before after R.OpenFault not is = omega (arith, is)
never_read before after R.NoMemory not is = omega (arith, is)
never_read before after (R.Served _ _) never is = never
never_read before after R.Written never is = never
never_read before after R.Usage never is = never
never_read before after R.TextRefused never is = never
never_read before after R.TreeFault never is = never
never_read before after R.MakerFault never is = never
never_read before after R.InputFault never is = never

pub opens_cause : (before after : Surroundings) (end : RunEnd) → OpensNot before after end → (status_of end ≡ 7 → WriteFailed before.streams after.streams)
    → HasCause (status_of end ≡ 6) (status_of end ≡ 7) before.streams after.streams
opens_cause before after end not cause = record { read = λ is. absurd (never_read before after end not is); write = cause }

-- ---- faults of the disk

rose_on : (opened served number : ℕ) → RoseBy number opened served → (opened ≤ served) ⊎ (last_count ≤ served)
rose_on opened served number (inl rose) = inl (omega (arith, rose))
rose_on opened served number (inr last) = inr last

rose_from : (before opened served after : ℕ) → before ≤ opened → (opened ≤ served) ⊎ (last_count ≤ served) → Rose served after → Rose before after
rose_from before opened served after first (inl le) (inl rose) = inl (omega (arith, first, le, rose))
rose_from before opened served after first (inr last) (inl rose) = inr (omega (arith, last, rose))
rose_from before opened served after first le (inr last) = inr last

never_four : (end : SessionEnd) → session_status end ≡ 4 → ⊥
never_four Ended is = omega (arith, is)
never_four Closed is = omega (arith, is)
never_four Stopped is = omega (arith, is)
never_four Refused is = omega (arith, is)
never_four ReadFault is = omega (arith, is)
never_four WriteFault is = omega (arith, is)
never_four TooLong is = omega (arith, is)
never_four NoMemory is = omega (arith, is)

pub keep_cause : (by : Service) (before after : Surroundings) (end : SessionEnd) (keeping : Keeping)
    → ServesJournal by before after end keeping → served_status end keeping ≡ 4 → DiskFailed before.disk after.disk
keep_cause by before after end K.Nothing serves is = absurd (never_four end is)
keep_cause by before after end (K.Done count) serves is = absurd (never_four end is)
keep_cause by before after end K.NoMemory serves is = absurd (omega (arith, is))
keep_cause by before after end K.Fault serves is =
    rose_from before.disk.faults serves.opened.faults serves.served.faults after.disk.faults serves.no_fewer
    (rose_on serves.opened.faults serves.served.faults (store_faults serves.serves.responses) serves.blames) (serves.keeps.1 tt)

-- ---- a book that was made of what was opened

-- what each step of a desk keeps
pub kept_along : {K : Type 0} (asks : K → Command → Receipt → K → Type 0) (P : K → Type 0)
    → ((desk desk' : K) (command : Command) (receipt : Receipt) → asks desk command receipt desk' → P desk → P desk')
    → (responses : List Response) (first second : K) → RunsDesk asks first responses second → P first → P second
kept_along asks P steps [] first second runs holds = subst P (sym runs) holds
kept_along asks P steps (refused error ∷ responses) first second runs holds = kept_along asks P steps responses first second runs holds
kept_along asks P steps (met exchange ∷ responses) first second runs holds =
    kept_along asks P steps responses runs.0 second runs.2 (by_asked exchange.asked refl)
  where
    by_asked : (asked : Option Asking) → exchange.asked ≡ asked → P runs.0
    by_asked None is = subst P (sym (subst (λ a. StepsDesk asks first a runs.0) is runs.1)) holds
    by_asked (Some asking) is = steps first runs.0 asking.command asking.receipt (subst (λ a. StepsDesk asks first a runs.0) is runs.1) holds

-- the link is the one from before the opening
pub from_streams : {X K : Type 0} (told : X → Told) (asks : K → Command → Receipt → K → Type 0) (ways : Ways) (first : K) (ahead : Outlook) (after : Around K) (window : List ℕ) (end : SessionEnd)
    {here before : X} → here ≡ before → Serves asks ways (around (told here) first ahead) after window end → Serves asks ways (around (told before) first ahead) after window end
from_streams told asks ways first ahead after window end same serves = subst (λ x. Serves asks ways (around (told x) first ahead) after window end) same serves

pub moved_disk : {D : Type 0} (P : D → Type 0) {disk disk' : D} → disk' ≡ disk → P disk → P disk'
moved_disk P same holds = subst P (sym same) holds
