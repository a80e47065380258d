-- Each turn at a shared book goes on with its run.
use Rattle.std.proofs.Common.{◌≡◌, ◌⊎◌, inl, inr, ⊎_elim, ℕ, ◌≤◌, IsTrue, List, [], ◌∷◌, ◌++◌, refl, sym, ◌∙◌, ap, subst, arith}
use Rattle.std.proofs.lemmas.List.{append_assoc, append-nil}
use Rattle.std.proofs.lemmas.List.Elements.{filter_map-append}
use Rattle.soc_schema.specs.declared.reporter.Reporter as reporter
use Rattle.soc_edge.specs.Disk.{DiskTold, IsDisk, GoesOn}
use Rattle.soc_edge.specs.Faults.{Rose}
use Rattle.soc_edge.specs.declared.disk.Disk as disk
use Rattle.soc_edge.proofs.Disks.{GoesOn-none, GoesOn-append}
use Rattle.soc_desk.specs.declared.desk.Command.{Command}
use Rattle.soc_desk.specs.declared.desk.Receipt.{Receipt}
use Rattle.soc_desk.specs.Asks.{Asks}
use Rattle.soc_desk.specs.Basis.{Basis}
use Rattle.soc_desk.specs.Laws.{HasAll}
use Rattle.soc_desk.specs.Log.{Change, Kept}
use Rattle.soc_desk.specs.Runs.{Answers, DeskAt}
use Rattle.soc_desk.specs.State.{State, Allowed, StandsFor as IsJournalOf, kept_in, kept_of}
use Rattle.soc_desk.proofs.Lasting.{asked_lasts}
use Rattle.soc_book.specs.declared.book.Book.{Book}
use Rattle.soc_book.specs.Books.{StandsFor, disk_of}
use Rattle.soc_turns.specs.Runs.{HasRun, IsOver, RunsFrom, RunsTurns}

-- ---- time goes on

-- what a state allows has all that was kept
pub has_kept : (state : State) (image : List ℕ) → Allowed state image → HasAll (kept_of state.log) image
has_kept state image (inl stands) = ([], subst (λ (kept : List Kept). IsJournalOf image kept) (sym (append-nil (kept_of state.log))) stands)
has_kept state image (inr stands) = (state.doubt, stands)

-- a log's front had kept no more
pub had_kept : (log log' piece : List Change) (image : List ℕ) → log' ≡ log ++ piece → HasAll (kept_of log') image → HasAll (kept_of log) image
had_kept log log' piece image behind (more, stands) =
    let split : kept_of log' ++ more ≡ kept_of log ++ (kept_of piece ++ more) =
    ap (λ (l : List Change). kept_of l ++ more) behind
    ∙ (ap (λ (k : List Kept). k ++ more) (filter_map-append kept_in log piece) ∙ append_assoc (kept_of log) (kept_of piece) more) in
    (kept_of piece ++ more, subst (λ (kept : List Kept). IsJournalOf image kept) split stands)

module _ (basis : Basis) (disk disk' : DiskTold) (on : GoesOn disk disk') where
  -- each stop behind the disk's moment leaves all that this desk had kept
  abbrev pub LeavesAll : DeskAt → Type 0
  LeavesAll desk = IsTrue basis.is_told → (image : List ℕ) → disk'.since disk.moment image → HasAll (kept_of desk.state.log) image

  answers_on : (before after : DeskAt) (command : Command) (receipt : Receipt) → Answers basis disk.since before command receipt after → after.moment ≤ disk.moment → LeavesAll after
      → Answers basis disk'.since before command receipt after
  answers_on before after command receipt answers within leaves = record {
    kind = answers.kind;
    gains = answers.gains;
    legal = answers.legal;
    front = answers.front;
    short = answers.short;
    stopped = answers.stopped;
    later = answers.later;
    no_fewer = answers.no_fewer;
    fault = answers.fault;
    altered = answers.altered;
    step = answers.step;
    survives = λ told image left. ⊎_elim
        (λ early. ⊎_elim (λ allowed. inl allowed) (λ late. inr (on.keeps after.moment image within late)) (answers.survives told image early))
        (λ late. inr (on.wider after.moment disk.moment image within late))
        (on.nothing_else before.moment image (omega (arith, answers.later, within)) left);
    outlives = λ told image left. ⊎_elim (λ early. answers.outlives told image early) (λ late. leaves told image late) (on.nothing_else after.moment image within left);
  }

  -- the same run over the disk as it goes on
  pub record RunsOn (first : DeskAt) (turns : List (Command × Receipt)) (last : DeskAt) : Type 0 where
    pub runs : RunsTurns (Answers basis disk'.since) first turns last
    pub within : first.moment ≤ disk.moment
    pub leaves : LeavesAll first

  pub runs_on : (turns : List (Command × Receipt)) (first last : DeskAt) → RunsTurns (Answers basis disk.since) first turns last → last.moment ≤ disk.moment → LeavesAll last → RunsOn first turns last
  runs_on [] first last runs within leaves = subst (λ (d : DeskAt). RunsOn first [] d) (sym runs) (record {
    runs = refl;
    within = subst (λ (d : DeskAt). d.moment ≤ disk.moment) runs within;
    leaves = subst LeavesAll runs leaves;
  })
  runs_on (turn ∷ turns) first last (between, answers, runs) within leaves =
      let rest = runs_on turns between last runs within leaves in
      record {
        runs = (between, answers_on first between turn.0 turn.1 answers rest.within rest.leaves, rest.runs);
        within = let later = answers.later in let soon = rest.within in omega (arith, later, soon);
        leaves = λ told image left. had_kept first.state.log between.state.log answers.gains.piece image answers.gains.behind (rest.leaves told image left);
      }

-- ---- one more turn

runs_more : (asks : DeskAt → Command → Receipt → DeskAt → Type 0) (turns : List (Command × Receipt)) (turn : Command × Receipt) (first last next : DeskAt)
    → RunsTurns asks first turns last → asks last turn.0 turn.1 next → RunsTurns asks first (turns ++ turn ∷ []) next
runs_more asks [] turn first last next runs step = (next, subst (λ (d : DeskAt). asks d turn.0 turn.1 next) runs step, refl)
runs_more asks (one ∷ turns) turn first last next (between, answers, runs) step = (between, answers, runs_more asks turns turn between last next runs step)

module _ {D R : Type 0} {d : disk.Ghosts D} {r : reporter.Ghosts R} (basis : Basis) (opened before after : Book D R d r) (sound : IsDisk (disk_of after)) (command : Command) (receipt : Receipt)
    (asked : (state : State) → StandsFor basis before state → (later : State) × StandsFor basis after later × Asks basis state (disk_of before) command receipt later (disk_of after)) where
  module _ (first : DeskAt) (run : HasRun basis opened before first) where
    abbrev done : (later : State) × StandsFor basis after later × Asks basis run.last.state (disk_of before) command receipt later (disk_of after)
    done = asked run.last.state run.over.stands

    abbrev asks : Asks basis run.last.state (disk_of before) command receipt done.0 (disk_of after)
    asks = done.2

    abbrev next : DeskAt
    next = record { state = done.0; moment = (disk_of after).moment; faults = (disk_of after).faults }

    allowed_next : IsTrue basis.is_told → (image : List ℕ) → (disk_of after).since (disk_of after).moment image → Allowed done.0 image
    allowed_next told image left = asks.allowed told image (sound.only_now image left)

    answers : Answers basis (disk_of after).since run.last command receipt next
    answers = record {
      kind = asks.kind;
      gains = asks.gains;
      legal = asks.legal;
      front = asks.front;
      short = asks.short;
      stopped = asks.stopped;
      later = let within = run.over.within in let later = asks.goes_on.later in omega (arith, within, later);
      no_fewer = let same = run.over.faults_are in let rose = asks.goes_on.faults_never_fall in omega (arith, same, rose);
      fault = λ is. subst (λ (n : ℕ). Rose n (disk_of after).faults) (sym run.over.faults_are) (asks.fault is);
      altered = asks.altered;
      step = asks.step;
      survives = λ told image left. inl (⊎_elim (λ early. inl (run.over.holds told image early)) (λ late. (asks.survives told).each image late)
          (asks.goes_on.nothing_else run.last.moment image run.over.within left));
      outlives = λ told image left. has_kept done.0 image (allowed_next told image left);
    }

    earlier : RunsOn basis (disk_of before) (disk_of after) asks.goes_on first run.turns run.last
    earlier = runs_on basis (disk_of before) (disk_of after) asks.goes_on run.turns first run.last run.runs run.over.within
        (λ told image left. (asked_lasts basis run.last.state done.0 command receipt (disk_of before) (disk_of after) told asks).leaves.each image left)

    one_more : HasRun basis opened after first
    one_more = record {
      goes_on = GoesOn-append (disk_of opened) (disk_of before) (disk_of after) run.goes_on asks.goes_on;
      turns = run.turns ++ (command, receipt) ∷ [];
      last = next;
      runs = runs_more (Answers basis (disk_of after).since) run.turns (command, receipt) first run.last next earlier.runs answers;
      over = record { stands = done.1; within = omega arith; faults_are = refl; holds = allowed_next };
    }

  pub turns_on : RunsFrom basis opened before → RunsFrom basis opened after
  turns_on runs first over = one_more first (runs first over)

-- no turn yet
pub no_turns : {D R : Type 0} {d : disk.Ghosts D} {r : reporter.Ghosts R} (basis : Basis) (book : Book D R d r) → IsDisk (disk_of book) → RunsFrom basis book book
no_turns basis book sound first over = record { goes_on = GoesOn-none (disk_of book) sound; turns = []; last = first; runs = refl; over = over }
