-- What actions add to a log, and how a life goes on from a state.
use Rattle.std.proofs.Common.{◌≡◌, inl, inr, IsTrue, List, [], ◌∷◌, ◌++◌, map, sym, ap, ◌∙◌, refl, append_assoc}
use Rattle.std.specs.List.{AllByRecursion}
use Rattle.std.proofs.lemmas.List.{append-nil}
use Rattle.std.proofs.lemmas.List.Elements.{filter_map-append}
use Rattle.soc_raw.specs.declared.raw_crash.RawCrash.{RawCrash}
use Rattle.soc_desk.specs.declared.desk.Reply.{Reply}
use Rattle.soc_desk.specs.declared.desk.Reply.TheVariants as R
use Rattle.soc_desk.specs.declared.desk.Refusal.TheVariants as F
use Rattle.soc_desk.specs.Basis.{Basis}
use Rattle.soc_desk.specs.Keeps.{KeepsFirst, StepKeep}
use Rattle.soc_desk.specs.Log.{Change, Kept, keep}
use Rattle.soc_desk.specs.Opens.{log_of}
use Rattle.soc_desk.specs.State.{IsLegalState, Settles, State, kept_in, kept_of}
use Rattle.soc_desk.proofs.Steps.{steps_grow}
use Rattle.soc_lives.specs.Lives.{Action, asking, storing, failing, keeping, Does, Follow, Transition, Writes, all_doubted, all_kept, last_state}
use Rattle.soc_lives.specs.Laws.{BeginsWith}

-- ---- kept changes

pub kept_more : (log piece : List Change) → kept_of (log ++ piece) ≡ kept_of log ++ kept_of piece
kept_more log piece = filter_map-append kept_in log piece

pub kept_all : (kept : List Kept) → kept_of (log_of kept) ≡ kept
kept_all [] = refl
kept_all (change ∷ kept) = ap (λ (k : List Kept). change ∷ k) (kept_all kept)

-- ---- fronts

-- the first log is a front of the second
abbrev pub IsFrontOf : List Change → List Change → Type 0
IsFrontOf log after = (piece : List Change) × (after ≡ log ++ piece)

pub front_itself : (log : List Change) → IsFrontOf log log
front_itself log = ([], sym (append-nil log))

pub front_further : (log after last : List Change) → IsFrontOf log after → IsFrontOf after last → IsFrontOf log last
front_further log after last (piece, is) (rest, last_is) =
    (piece ++ rest, last_is ∙ (ap (λ (l : List Change). l ++ rest) is ∙ append_assoc log piece rest))

pub front_kept : (log after : List Change) → IsFrontOf log after → BeginsWith (kept_of log) (kept_of after)
front_kept log after (piece, is) = (kept_of piece, ap kept_of is ∙ kept_more log piece)

pub begins_further : (front kept more : List Kept) → BeginsWith front kept → BeginsWith kept more → BeginsWith front more
begins_further front kept more (a, is) (b, more_is) =
    (a ++ b, more_is ∙ (ap (λ (k : List Kept). k ++ b) is ∙ append_assoc front a b))

pub begins_itself : (kept : List Kept) → BeginsWith kept kept
begins_itself kept = ([], sym (append-nil kept))

-- ---- one action

pub settles_front : (log : List Change) (doubt : List Kept) (after : List Change) → Settles log doubt after → IsFrontOf log after
settles_front log [] after is = ([], is ∙ sym (append-nil log))
settles_front log (first ∷ more) after (inl is) = (map keep (first ∷ more), is)
settles_front log (first ∷ more) after (inr is) = ([], is ∙ sym (append-nil log))

first_front : (log : List Change) (all : List Kept) (reply : Reply) (after : State) → KeepsFirst log all reply after → IsFrontOf log after.log
first_front log all (R.Kept count) after (count_is, is) = (map keep all, ap (λ (s : State). s.log) is)
first_front log all (R.Refused F.NoMemory) after (first, rest, whole, some, is) = (map keep first, ap (λ (s : State). s.log) is)
first_front log all (R.Refused F.StoreFault) after (first, failed, rest, whole, some, is) = (map keep first, ap (λ (s : State). s.log) is)
first_front log all _ after fails = absurd fails

keep_front : (basis : Basis) (before : State) (reply : Reply) (after : State) → StepKeep basis before reply after → IsFrontOf before.log after.log
keep_front basis before reply after (inl (some, (said, same))) = ([], ap (λ (s : State). s.log) same ∙ sym (append-nil before.log))
keep_front basis before reply after (inr keeps) =
    front_further before.log keeps.log after.log (settles_front before.log before.doubt keeps.log keeps.settles) (first_front keeps.log _ reply after keeps.keeps)

write_front : (basis : Basis) (before : State) (raws : List RawCrash) (comes : List Change → List Kept → State) (after : State)
    → ((log : List Change) (changes : List Kept) → IsFrontOf log (comes log changes).log) → Writes basis before raws comes after → IsFrontOf before.log after.log
write_front basis before raws comes after more writes =
    let behind = more writes.log writes.changes in
    front_further before.log writes.log after.log (settles_front before.log before.doubt writes.log writes.settles)
    (behind.0, ap (λ (s : State). s.log) writes.after_is ∙ behind.1)

pub does_front : (basis : Basis) (before : State) (action : Action) (after : State) → IsTrue basis.is_told → IsLegalState basis before → Does basis before action after → IsFrontOf before.log after.log
does_front basis before (asking command reply) after is_told legal step =
    let gains = steps_grow basis before command reply after is_told legal step in (gains.piece, gains.behind)
does_front basis before (storing raws) after is_told legal writes = write_front basis before raws all_kept after (λ log changes. (map keep changes, refl)) writes
does_front basis before (failing raws) after is_told legal writes = write_front basis before raws all_doubted after (λ log changes. front_itself log) writes
does_front basis before (keeping reply) after is_told legal keeps = keep_front basis before reply after keeps

-- ---- the states of a life

module _ (basis : Basis) (is_told : IsTrue basis.is_told) where
  -- the last state begins with this one
  pub last_front : (before : State) (transitions : List Transition) → IsLegalState basis before → Follow basis before transitions → IsFrontOf before.log (last_state before transitions).log
  last_front before [] legal goes = front_itself before.log
  last_front before (transition ∷ transitions) legal goes =
      let after = transition.after in
      front_further before.log after.log (last_state after transitions).log (does_front basis before transition.action after is_told legal goes.0.0) (last_front after transitions goes.0.1 goes.1)

  pub last_legal : (before : State) (transitions : List Transition) → IsLegalState basis before → Follow basis before transitions → IsLegalState basis (last_state before transitions)
  last_legal before [] legal goes = legal
  last_legal before (transition ∷ transitions) legal goes = last_legal transition.after transitions goes.0.1 goes.1

  -- what follows from a transition, wherever it stands, holds of each
  pub at_each : (P : Transition → Type 0) (last before : State) (transitions : List Transition) → IsLegalState basis before → Follow basis before transitions → last_state before transitions ≡ last
      → ((old : State) (transition : Transition) → IsLegalState basis old → Does basis old transition.action transition.after → IsLegalState basis transition.after → IsFrontOf transition.after.log last.log → P transition)
      → AllByRecursion P transitions
  at_each P last before [] legal goes last_is each = tt
  at_each P last before (transition ∷ transitions) legal goes last_is each =
      let front = last_front transition.after transitions goes.0.1 goes.1 in (
        each before transition legal goes.0.0 goes.0.1 (front.0, ap (λ (s : State). s.log) (sym last_is) ∙ front.1),
        at_each P last transition.after transitions goes.0.1 goes.1 last_is each,
      )
