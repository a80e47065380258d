-- What a turn of a shared book owes to the hall.
use Rattle.std.proofs.Common.{◌≡◌, ◌⊎◌, inl, inr, ℕ, ◌<◌, ◌^◌, Bool, true, false, cond, IsTrue, List, [], ◌∷◌, ◌++◌, length, take, drop, Option, Some, None, IfSome, IsSomeAnd, refl, sym, ◌∙◌, ap, subst}
use Rattle.std.specs.Prelude.{bytes_eq, is_some, if◌then◌else◌}
use Rattle.std.specs.List.{AllByRecursion, find}
use Rattle.std.specs.Option.{option_map, option_and_then}
use Rattle.std.proofs.Math.Logic.{∥∥₁_elim, ∥∥₁_map}
use Rattle.std.proofs.Math.Seq.{take-append_seam}
use Rattle.std.proofs.lemmas.List.{length-map, map-append, take-append-drop}
use mathlib.Core.List.{IsPrefix}
use Rattle.soc_base.proofs.Folk.{none_is_not_some, some-injective}
use Rattle.soc_raw.specs.RawCrash.{crash_of}
use Rattle.soc_raw.specs.Record.{Crash, IsCrash, record_of}
use Rattle.soc_raw.specs.declared.raw_crash.RawCrash.{RawCrash}
use Rattle.soc_raw.proofs.Records.{same_crash}
use Rattle.soc_schema.specs.declared.reporter.Reporter as reporter
use Rattle.soc_schema.specs.declared.value.Cell.{Cell}
use Rattle.soc_edge.specs.Disk.{DiskTold, IsDisk}
use Rattle.soc_edge.specs.declared.disk.Disk as disk
use Rattle.soc_journal.specs.Entries.{Entry}
use Rattle.soc_journal.specs.States.{JournalState}
use Rattle.soc_ledger.specs.Due.{is_due}
use Rattle.soc_ledger.specs.Events.{has_stop, is_held}
use Rattle.soc_vault.specs.Vaults.{Means}
use Rattle.soc_desk.specs.declared.desk.Command.{Command}
use Rattle.soc_desk.specs.declared.desk.Command.TheVariants as C
use Rattle.soc_desk.specs.declared.desk.Limits.{Limits}
use Rattle.soc_desk.specs.declared.desk.Receipt.{Receipt}
use Rattle.soc_desk.specs.declared.desk.Refusal.{Refusal}
use Rattle.soc_desk.specs.declared.desk.Refusal.TheVariants as F
use Rattle.soc_desk.specs.declared.desk.Reply.{Reply}
use Rattle.soc_desk.specs.declared.desk.Reply.TheVariants as R
use Rattle.soc_desk.specs.Asks.{Asks}
use Rattle.soc_desk.specs.Basis.{Basis}
use Rattle.soc_desk.specs.Desk.{Fails, IfElse, IsFetched, Step}
use Rattle.soc_desk.specs.Grows.{Grows}
use Rattle.soc_desk.specs.Log.{Accepted, Change as Logged, IsLegal, accepted_of, events, raw_of}
use Rattle.soc_desk.specs.State.{State, doubted, settled}
use Rattle.soc_book.specs.declared.book.Book.{Book}
use Rattle.soc_book.specs.declared.opening.Restored.{Restored}
use Rattle.soc_book.specs.Books.{AllowsBook, AsksBook, ForEachState, SameSetting, StandsFor, disk_of, limits_of, log_in, reporter_of}
use Rattle.soc_book.specs.Openings.{RestoredFor, Restores}
use Rattle.soc_book.proofs.Changes.{IsSoundCrash, sound_crashes}
use Rattle.soc_service.specs.declared.change.Change.{Change}
use Rattle.soc_service.specs.Changes.{events_in, text_in}
use Rattle.soc_turns.specs.Changes.{changes_at}
use Rattle.soc_turns.specs.Logs.{change_of, changes_of}
use Rattle.soc_turns.specs.Grounds.{basis_of, desk_basis}
use Rattle.soc_turns.specs.Runs.{RunsFrom}
use Rattle.soc_service.specs.Answers.{Answers, FetchesText, MayAsk, TellsIdle}
use Rattle.soc_turns.proofs.Idle.{doubt_counts, tells_idle}
use Rattle.soc_service.proofs.Codes.{one_log}
use Rattle.soc_turns.proofs.Logs.{events_are, log_is, text_is}
use Rattle.soc_turns.proofs.Runs.{turns_on}

-- ---- what may be asked

found_first : {X : Type 0} (P : X → Type 0) (b : Bool) (x y : X) (rest : Option X) → P y → (rest ≡ Some x → P x) → cond b (Some y) rest ≡ Some x → P x
found_first P true x y rest here later is = subst P (some-injective is) here
found_first P false x y rest here later is = later is

found_all : {X : Type 0} (P : X → Type 0) (test : X → Bool) (xs : List X) (x : X) → AllByRecursion P xs → find test xs ≡ Some x → P x
found_all P test [] x all is = absurd (none_is_not_some is)
found_all P test (y ∷ xs) x all is = found_first P (test y) x y (find test xs) all.0 (found_all P test xs x all.1) is

raw_found : (found : Option Accepted) (raw : Crash) → option_and_then (λ c. c.raw) found ≡ Some raw → (crash : Accepted) × (found ≡ Some crash) × (crash.raw ≡ Some raw)
raw_found None raw is = absurd (none_is_not_some is)
raw_found (Some crash) raw is = (crash, refl, is)

-- a raw crash of a legal log is one
raw_sound : (basis : Basis) (log : List Logged) (id : List ℕ) (raw : Crash) → IsLegal basis log → raw_of log id ≡ Some raw → IsCrash raw
raw_sound basis log id raw legal is =
    let f = raw_found (find (λ crash. bytes_eq crash.id id) (accepted_of log)) raw is in
    let sound : IsSoundCrash f.0 = found_all IsSoundCrash (λ crash. bytes_eq crash.id id) (accepted_of log) f.0 (sound_crashes log legal.sound) f.1 in
    (subst (λ (o : Option Crash). IfSome o (λ r. (r.id ≡ f.0.id) × IsCrash r)) f.2 sound.1).1

-- the raw crash with this record
raw_by : (held : Option Crash) (crash : Crash) → ((raw : Crash) → held ≡ Some raw → IsCrash raw) → IsCrash crash → option_map record_of held ≡ Some (record_of crash) → held ≡ Some crash
raw_by None crash sound is text = absurd (none_is_not_some text)
raw_by (Some raw) crash sound is text = ap (λ r. Some r) (same_crash raw crash (sound raw refl) is (some-injective text))

tells_some : (P : List ℕ → Type 0) (content : Option (List ℕ)) → IsSomeAnd content P → is_some content ≡ true
tells_some P None some = absurd some
tells_some P (Some bytes) some = refl

means_some : (disk : DiskTold) (journal : JournalState) (entries doubt : List Entry) → Means disk journal entries doubt → is_some disk.content ≡ true
means_some disk journal entries [] means = tells_some _ disk.content means
means_some disk journal entries (first ∷ more) means = tells_some _ disk.content means

module _ {D R : Type 0} {d : disk.Ghosts D} {r : reporter.Ghosts R} (tells : Bool) (book : Book D R d r) (steady : is_some (disk_of book).content ≡ tells) where
  raw_here : (crash : Crash) → (IsTrue tells → IsCrash crash × (text_in (changes_at tells (disk_of book).content (log_in book)) crash.id ≡ Some (record_of crash)))
      → ForEachState book (λ basis state. IsTrue basis.is_told → raw_of state.log crash.id ≡ Some crash)
  raw_here crash may basis state stands is_told =
      let means : tells ≡ true = sym steady ∙ means_some (disk_of book) _ _ _ (stands.told is_told).means in
      let there = may means in
      let text : text_in (changes_of basis state.log) crash.id ≡ Some (record_of crash) =
      ap (λ l. text_in l crash.id) (sym (log_is stands))
      ∙ (ap (λ b. text_in (changes_at b (disk_of book).content (log_in book)) crash.id) (is_told ∙ sym means) ∙ there.1) in
      raw_by (raw_of state.log crash.id) crash (λ raw is. raw_sound basis state.log crash.id raw stands.legal.log is) there.0
      (sym (text_is basis state.log crash.id is_told (stands.legal.log.told is_told)) ∙ text)

  pub allowed : (digest : Option (List ℕ)) (command : Command) → MayAsk (desk_basis (r.row_of (reporter_of book)) digest (limits_of book) tells) (changes_at tells (disk_of book).content (log_in book)) command
      → AllowsBook book command
  allowed digest (C.Finish processed) may = (may.0, λ basis state stands is_told due. raw_here processed.crash may.1 basis state stands is_told)
  allowed digest (C.Submit raw) may = tt
  allowed digest (C.Priority caller id) may = tt
  allowed digest (C.Reprocess caller id) may = tt
  allowed digest (C.Withdraw caller id) may = tt
  allowed digest (C.Raw caller id) may = tt
  allowed digest (C.Processed caller id) may = tt
  allowed digest (C.Dump caller id name) may = tt
  allowed digest (C.Search query) may = tt
  allowed digest (C.Tops query) may = tt
  allowed digest (C.Stack caller id) may = tt
  allowed digest (C.Counts caller) may = tt
  allowed digest (C.Turn caller) may = tt
  allowed digest (C.Drain caller) may = tt
  allowed digest (C.Stop caller) may = tt
  allowed digest (C.Fetch id) may = tt

-- ---- what a turn gives

fetched_raw : (raw : RawCrash) (held : Option Crash) (due is_held_now : Bool) (before after : State)
    → IfElse due ((IsFetched held (R.Fetched (Some raw)) × (after ≡ before)) ⊎ Fails before true (R.Fetched (Some raw)) after)
    ((R.Fetched (Some raw) ≡ (if is_held_now then R.Fetched None else R.Refused F.NoCrash)) × (after ≡ before))
    → held ≡ Some (crash_of raw)
fetched_raw raw held true is_held_now before after (inl got) = got.0
fetched_raw raw held true is_held_now before after (inr (inl refused)) = absurd (not_refused _ refused.0) where
  not_refused : (refusal : Refusal) → R.Fetched (Some raw) ≡ R.Refused refusal → ⊥
  not_refused refusal is = cc
fetched_raw raw held true is_held_now before after (inr (inr refused)) = absurd (not_refused _ refused.1.0) where
  not_refused : (refusal : Refusal) → R.Fetched (Some raw) ≡ R.Refused refusal → ⊥
  not_refused refusal is = cc
fetched_raw raw held false true before after step = absurd (not_none step.0) where
  not_none : R.Fetched (Some raw) ≡ R.Fetched None → ⊥
  not_none is = cc
fetched_raw raw held false false before after step = absurd (not_refused step.0) where
  not_refused : R.Fetched (Some raw) ≡ R.Refused F.NoCrash → ⊥
  not_refused is = cc

module _ (basis : Basis) (before after : State) (legal : IsLegal basis before.log) (is_told : IsTrue basis.is_told) where
  of_fetch : (id : List ℕ) (reply : Reply) → Step basis before (C.Fetch id) reply after → FetchesText (changes_of basis before.log) (C.Fetch id) reply
  of_fetch id (R.Fetched (Some raw)) step =
      text_is basis before.log id is_told (legal.told is_told)
      ∙ ap (λ o. option_map record_of o) (fetched_raw raw (raw_of before.log id) (is_due (events basis before.log) id) (is_held (events basis before.log) id) before after step)
  of_fetch id _ step = tt

  fetched_text : (command : Command) (reply : Reply) → Step basis before command reply after → FetchesText (changes_of basis before.log) command reply
  fetched_text (C.Fetch id) reply step = of_fetch id reply step
  fetched_text _ reply step = tt

-- what the desk's step says, of the logs that the tables tell
answers_of : (basis : Basis) (before after : State) → IsLegal basis before.log
    → (log log' : List Change) (disk disk' : DiskTold) (command : Command) (receipt : Receipt) → log ≡ changes_of basis before.log → log' ≡ changes_of basis after.log
    → Asks basis before disk command receipt after disk' → Answers basis log command receipt log'
answers_of basis before after legal log log' disk disk' command receipt is is' asks =
    let piece = asks.gains.piece in
    let was : events_in log ≡ events basis before.log = ap (λ l. events_in l) is ∙ events_are basis before.log in
    let now : events_in log' ≡ events basis after.log = ap (λ l. events_in l) is' ∙ events_are basis after.log in
    let size : length after.log ≡ length log' = sym (ap (λ l. length l) is' ∙ length-map after.log (change_of basis)) in record {
      piece = changes_of basis piece;
      behind = is' ∙ (ap (λ l. changes_of basis l) asks.gains.behind ∙ (map-append (change_of basis) before.log piece ∙ ap (λ l. l ++ changes_of basis piece) (sym is)));
      doubt = doubted basis before;
      left = doubted basis after;
      of_journal = doubt_counts basis before;
      grows =
          subst (λ l. Grows basis l (doubted basis before) command receipt.reply (events_in (changes_of basis piece)) (doubted basis after)) (sym was)
          (subst (λ p. Grows basis (events basis before.log) (doubted basis before) command receipt.reply p (doubted basis after)) (sym (events_are basis piece)) asks.gains.grows);
      kind = asks.kind;
      idle = subst (λ l. TellsIdle l command receipt.reply) (sym was) (tells_idle basis (events basis before.log) legal.events_legal (doubted basis before) command receipt.reply (events basis piece) (doubted basis after) asks.gains.grows);
      front = asks.front ∙ size;
      short = subst (λ n. n < 2 ^ 60) size asks.short;
      stopped = asks.stopped ∙ ap (λ l. has_stop l) (sym now);
      altered = asks.altered;
      fetched = λ told. subst (λ l. FetchesText l command receipt.reply) (sym is) (fetched_text basis before after legal told command receipt.reply (asks.step told));
    }

-- the second log begins with the first, which it was taken from
prefix_by : (log log' : List Change) → take (length log) log' ≡ log → IsPrefix log log'
prefix_by log log' front = (drop (length log) log', ap (λ l. l ++ drop (length log) log') (sym front) ∙ take-append-drop (length log) log')

pub same_basis : {R : Type 0} (rows : R → Crash → List Cell) (digests : R → Option (List ℕ)) (tells : Bool) {by by' : R} {limits limits' : Limits} → by' ≡ by → limits' ≡ limits
    → desk_basis (rows by) (digests by) limits tells ≡ desk_basis (rows by') (digests by') limits' tells
same_basis rows digests tells {by = by} {limits' = limits'} same_reporter same_limits =
    sym (ap (λ x. desk_basis (rows x) (digests x) limits' tells) same_reporter ∙ ap (λ l. desk_basis (rows by) (digests by) l tells) same_limits)

module _ {D R : Type 0} {d : disk.Ghosts D} {r : reporter.Ghosts R} (tells : Bool) where
  abbrev Stood : Book D R d r → Type 0
  Stood book = (state : State) × StandsFor (basis_of tells book) book state

  -- a book over what was read stands for the log that it was opened with
  pub over_stands : {by : R} {limits : Limits} {restored : Restored} (before now : DiskTold) (book : Book D R d r) → reporter_of book ≡ by → limits_of book ≡ limits
      → ((basis : Basis) (state : State) → RestoredFor basis limits restored now state → StandsFor basis book state) → is_some before.content ≡ tells
      → Restores (r.row_of by) (r.digest_of by) limits before restored now → Stood book
  over_stands {by = by} {limits = limits} before now book same_reporter same_limits stands steady opens =
      let here : Basis = desk_basis (r.row_of by) (r.digest_of by) limits tells in
      let o = opens here (record { rows = refl; digest_is = refl; bytes = refl; crashes_are = refl; tells = λ is. steady ∙ is }) in
      (settled o.log, subst (λ (b : Basis). StandsFor b book (settled o.log)) (same_basis r.row_of r.digest_of tells same_reporter same_limits) (stands here (settled o.log) o.now))

  module _ (before after : Book D R d r) (setting : SameSetting before after) (command : Command) (receipt : Receipt) (asks : AsksBook before command receipt after) (known : ∥ Stood before ∥₁) where
    abbrev basis : Basis
    basis = basis_of tells before

    abbrev log_of : Book D R d r → List Change
    log_of book = changes_at tells (disk_of book).content (log_in book)

    pub stands_still : ∥ Stood after ∥₁
    stands_still =
        subst (λ (b : Basis). ∥ ((state : State) × StandsFor b after state) ∥₁) (same_basis r.row_of r.digest_of tells setting.reporter setting.limits)
        (∥∥₁_map known (λ (s : Stood before). let a = asks basis s.0 refl s.1 in (a.0, a.1)))

    pub runs_still : IsDisk (disk_of after) → (opened : Book D R d r) → ∥ RunsFrom basis opened before ∥₁ → ∥ RunsFrom (basis_of tells after) opened after ∥₁
    runs_still sound opened runs =
        subst (λ (b : Basis). ∥ RunsFrom b opened after ∥₁) (same_basis r.row_of r.digest_of tells setting.reporter setting.limits)
        (∥∥₁_map runs (turns_on basis opened before after sound command receipt (λ state stands. asks basis state refl stands)))

    answers_at : Stood before → Answers basis (log_of before) command receipt (log_of after)
    answers_at s =
        let a = asks basis s.0 refl s.1 in
        answers_of basis s.0 a.0 s.1.legal.log (log_of before) (log_of after) (disk_of before) (disk_of after) command receipt (log_is s.1) (log_is a.1) a.2

    pub answers_now : ∥ Answers basis (log_of before) command receipt (log_of after) ∥₁
    answers_now = ∥∥₁_map known (λ (s : Stood before). answers_at s)

    pub log_goes_on : IsPrefix (log_of before) (log_of after)
    log_goes_on =
        prefix_by (log_of before) (log_of after)
        (∥∥₁_elim known (one_log (take (length (log_of before)) (log_of after)) (log_of before))
        (λ (s : Stood before). let a = answers_at s in ap (λ l. take (length (log_of before)) l) a.behind ∙ take-append_seam (log_of before) a.piece))
