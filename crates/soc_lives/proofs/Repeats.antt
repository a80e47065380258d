-- Repeated submissions and the crashes that they name.
use Rattle.std.proofs.Common.{◌≡◌, ◌⊎◌, inl, inr, ℕ, Bool, true, false, List, [], ◌∷◌, ◌++◌, Option, Some, None, IsSomeAnd, sym, ap, subst, ◌∙◌, refl}
use Rattle.std.specs.Prelude.{bytes_eq, if◌then◌else◌, length, nat_le}
use Rattle.std.specs.List.{AllByRecursion}
use Rattle.std.specs.Option.{option_map_or}
use Rattle.soc_raw.specs.RawCrash.{crash_of}
use Rattle.soc_raw.specs.Record.{Crash, content_text}
use Rattle.soc_raw.specs.declared.raw_crash.RawCrash.{RawCrash}
use Rattle.soc_ledger.specs.Due.{is_due_at_once}
use Rattle.soc_ledger.specs.Events.{accepted_ids, was_withdrawn}
use Rattle.soc_ledger.proofs.Lists.{same_text}
use Rattle.soc_desk.specs.declared.desk.Command.TheVariants as C
use Rattle.soc_desk.specs.declared.desk.Refusal.{Refusal}
use Rattle.soc_desk.specs.declared.desk.Refusal.TheVariants as F
use Rattle.soc_desk.specs.declared.desk.Reply.TheVariants as R
use Rattle.soc_desk.specs.Basis.{Basis}
use Rattle.soc_desk.specs.Decisions.{Decision, accepting, answers, appends, decide_new, decide_repeated, decide_submission}
use Rattle.soc_desk.specs.Desk.{Decides, FailsMend, FailsRead, IfElse, Refuses, SettlesAndDecides}
use Rattle.soc_desk.specs.Log.{Change, events, keep, raw_of}
use Rattle.soc_desk.specs.Opens.{log_of}
use Rattle.soc_desk.specs.State.{State, has_room, kept_of, settled}
use Rattle.soc_desk.proofs.Views.{all_weaker}
use Rattle.soc_lives.specs.Lives.{Action, AllLive, Does, Life, ended, opened}
use Rattle.soc_lives.specs.Laws.{AtEach, BeginsWith, IsRepeated}
use Rattle.soc_lives.proofs.Growth.{at_each}
use Rattle.soc_lives.proofs.Later.{kept_later, starts_legal}
use Rattle.soc_lives.proofs.Rows.{raw_later}

no_refusal : (id : List ℕ) (refusal : Refusal) → R.Repeated id ≡ R.Refused refusal → ⊥
no_refusal id refusal same = cc

not_stored : (id other : List ℕ) (due : Bool) → R.Repeated id ≡ R.Stored other due → ⊥
not_stored id other due same = cc

-- the log has the crash of the id, with the content of the one that was sent
abbrev IsThere : RawCrash → List Change → Type 0
IsThere raw log = IsSomeAnd (raw_of log raw.id) (λ held. content_text held ≡ content_text (crash_of raw))

module _ (basis : Basis) (raw : RawCrash) (id : List ℕ) (after : State) (log : List Change) where
  abbrev Comes : Decision → Type 0
  Comes decision = Decides basis log decision (R.Repeated id) after → IsThere raw after.log

  refused : (refusal : Refusal) → Comes (answers (R.Refused refusal))
  refused refusal decides = absurd (no_refusal id refusal decides.0)

  either : (b : Bool) (x y : Decision) → Comes x → Comes y → Comes (if b then x else y)
  either true x y first second = first
  either false x y first second = second

  room : (b : Bool) → IfElse b (((R.Repeated id ≡ R.Stored raw.id (is_due_at_once raw.id)) × (after ≡ settled (log ++ keep (accepting (crash_of raw)) ∷ [])))
      ⊎ ((R.Repeated id ≡ R.Refused F.StoreFault) × (after ≡ record { log = log; doubt = accepting (crash_of raw) ∷ [] })))
      ((R.Repeated id ≡ R.Refused F.JournalFull) × (after ≡ settled log)) → IsThere raw after.log
  room true (inl (said, same)) = absurd (not_stored id raw.id (is_due_at_once raw.id) said)
  room true (inr (said, same)) = absurd (no_refusal id F.StoreFault said)
  room false (said, same) = absurd (no_refusal id F.JournalFull said)

  new : Comes (decide_new basis log (crash_of raw))
  new = either (nat_le basis.crashes (length (accepted_ids (events basis log)))) _ (appends (accepting (crash_of raw)) (R.Stored raw.id (is_due_at_once raw.id)))
      (refused F.TooManyCrashes) (λ decides. room (has_room basis log (accepting (crash_of raw))) decides)

  there : (held : Crash) → raw_of log raw.id ≡ Some held → content_text held ≡ content_text (crash_of raw) → after ≡ settled log → IsThere raw after.log
  there held has same is =
      subst (λ (o : Option Crash). IsSomeAnd o (λ held. content_text held ≡ content_text (crash_of raw))) (sym (ap (λ (s : State). raw_of s.log raw.id) is ∙ has)) same

  compared : (held : Crash) (b : Bool) → bytes_eq (content_text held) (content_text (crash_of raw)) ≡ b → raw_of log raw.id ≡ Some held
      → Comes (if b then answers (R.Repeated raw.id) else answers (R.Refused (F.OtherContent raw.id)))
  compared held true same has decides = there held has (same_text (content_text held) (content_text (crash_of raw)) same) decides.1
  compared held false same has decides = refused (F.OtherContent raw.id) decides

  known : (o : Option Crash) → raw_of log raw.id ≡ o → Comes (option_map_or (decide_repeated (crash_of raw)) o (decide_new basis log (crash_of raw)))
  known None has = new
  known (Some held) has = compared held (bytes_eq (content_text held) (content_text (crash_of raw))) refl has

  decided : Comes (decide_submission basis log (crash_of raw))
  decided = either (was_withdrawn (events basis log) raw.id) _ (option_map_or (decide_repeated (crash_of raw)) (raw_of log raw.id) (decide_new basis log (crash_of raw)))
      (refused (F.Withdrawn raw.id)) (known (raw_of log raw.id) refl)

module _ (basis : Basis) (before : State) (raw : RawCrash) (id : List ℕ) (after : State) where
  settled_first : SettlesAndDecides basis before (C.Submit raw) (R.Repeated id) after → IsThere raw after.log
  settled_first settles = by settles.decides where
    by : Decides basis settles.log (decide_submission basis settles.log (crash_of raw)) (R.Repeated id) after ⊎ FailsRead basis settles.log (C.Submit raw) (R.Repeated id) after → IsThere raw after.log
    by (inl decides) = decided basis raw id after settles.log decides
    by (inr fails) = absurd (no_refusal id F.StoreFault fails.1)

  repeats : Refuses before F.NoMemory (R.Repeated id) after ⊎ (FailsMend before (R.Repeated id) after ⊎ SettlesAndDecides basis before (C.Submit raw) (R.Repeated id) after) → IsThere raw after.log
  repeats (inl (said, same)) = absurd (no_refusal id F.NoMemory said)
  repeats (inr (inl (some, (said, same)))) = absurd (no_refusal id F.StoreFault said)
  repeats (inr (inr settles)) = settled_first settles

later_held : (found : List ℕ) (life : Life) (later : List Life) → AllLive found (life ∷ later) → (log : List Change) → AllByRecursion (λ next. BeginsWith (kept_of log) next.opening) later → (raw : RawCrash) (o : Option Crash) → raw_of log raw.id ≡ o
    → IsSomeAnd o (λ held. content_text held ≡ content_text (crash_of raw))
    → (held : Crash) × (content_text held ≡ content_text (crash_of raw)) × AllByRecursion (λ next. raw_of (log_of next.opening) raw.id ≡ Some held) later
later_held found life later all log begins raw None has same = absurd same
later_held found life later all log begins raw (Some held) has same = (held, same, all_weaker _ _ later (raw_later log raw.id held has) begins)

pub repeated : (found : List ℕ) (life : Life) (later : List Life) → AllLive found (life ∷ later) → AtEach (IsRepeated later) life
repeated found life later all =
    at_each life.basis all.0.is_told (IsRepeated later) (ended life) (opened life) life.transitions (starts_legal found life all.0) all.0.goes refl
    (λ old transition legal does legal' front raw id is.
    let step = subst (λ (action : Action). Does life.basis old action transition.after) is does in
    later_held found life later all transition.after.log (kept_later found life later all transition.after.log front) raw (raw_of transition.after.log raw.id) refl (repeats life.basis old raw id transition.after step))
