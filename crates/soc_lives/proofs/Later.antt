-- What later lives open with.
use Rattle.std.proofs.Common.{◌⊎◌, inl, inr, ℕ, IsTrue, List, [], ◌∷◌, ◌++◌, map, Option, Some, None, sym, ap, subst, ◌∙◌, refl, append_assoc}
use Rattle.std.specs.List.{AllByRecursion}
use Rattle.std.proofs.lemmas.List.{append-nil}
use Rattle.soc_desk.specs.Basis.{Basis}
use Rattle.soc_desk.specs.Keeps.{StandsBetween, kept_with_doubt}
use Rattle.soc_desk.specs.Log.{Change, IsLegal, Kept, keep}
use Rattle.soc_desk.specs.Opens.{log_of}
use Rattle.soc_desk.specs.State.{Allowed, IsLegalState, StandsFor, State, kept_of}
use Rattle.soc_lives.specs.Lives.{Action, asking, storing, failing, keeping, AllLive, Follow, IsFound, Leaves, LeavesInside, Life, Lives, Transition, ended, opened}
use Rattle.soc_lives.specs.Laws.{BeginsWith, InEachState, IsKeptBetween, IsKeptBy, IsKeptInside, IsLeft, KeepsChanges}
use Rattle.soc_lives.proofs.Growth.{IsFrontOf, at_each, begins_further, does_front, front_further, front_itself, front_kept, kept_all, kept_more, last_front, last_legal}
use Rattle.soc_lives.proofs.Whole.{AreWhole, legal_whole, one_list}

-- ---- states

pub opened_legal : (life : Life) → IsLegal life.basis (log_of life.opening) → IsLegalState life.basis (opened life)
opened_legal life legal = record { log = legal; doubt = subst (IsLegal life.basis) (sym (append-nil (log_of life.opening))) legal }

module _ (found : List ℕ) (life : Life) (lives : Lives found life) where
  pub starts_legal : IsLegalState life.basis (opened life)
  starts_legal = opened_legal life lives.legal

  pub ends_legal : IsLegalState life.basis (ended life)
  ends_legal = last_legal life.basis lives.is_told (opened life) life.transitions starts_legal lives.goes

  pub ends_behind : IsFrontOf (log_of life.opening) (ended life).log
  ends_behind = last_front life.basis lives.is_told (opened life) life.transitions starts_legal lives.goes

-- ---- what an image stands for

module _ (basis : Basis) (is_told : IsTrue basis.is_told) where
  whole_with_doubt : (state : State) → IsLegalState basis state → AreWhole (kept_with_doubt state)
  whole_with_doubt state legal =
      subst AreWhole (kept_more state.log (map keep state.doubt) ∙ ap (λ (k : List Kept). kept_of state.log ++ k) (kept_all state.doubt))
      (legal_whole basis (state.log ++ map keep state.doubt) is_told legal.doubt)

  front_whole : (kept more : List Kept) → AreWhole (kept ++ more) → AreWhole kept
  front_whole [] more whole = tt
  front_whole (change ∷ kept) more whole = (whole.0, front_whole kept more whole.1)

  module _ (image : List ℕ) (kept : List Kept) (whole : AreWhole kept) (stands : StandsFor image kept) where
    allowed_is : (state : State) → IsLegalState basis state → Allowed state image → IsKeptBy state kept
    allowed_is state legal (inl other) = inl (one_list image kept (kept_of state.log) whole (legal_whole basis state.log is_told legal.log) stands other)
    allowed_is state legal (inr other) = inr (one_list image kept (kept_with_doubt state) whole (whole_with_doubt state legal) stands other)

    between_is : (before : List Kept) (after : State) → IsLegalState basis after → StandsBetween before (kept_with_doubt after) image → IsKeptBetween before (kept_with_doubt after) kept
    between_is before after legal between =
        let all : AreWhole ((before ++ between.more) ++ between.rest) = subst AreWhole (between.whole ∙ sym (append_assoc before between.more between.rest)) (whole_with_doubt after legal) in
        record {
          more = between.more;
          rest = between.rest;
          whole = between.whole;
          kept_is = one_list image kept (before ++ between.more) whole (front_whole (before ++ between.more) between.rest all) stands between.stands;
        }

    either_is : (before after : State) → IsLegalState basis before → IsLegalState basis after → Allowed before image ⊎ Allowed after image → IsKeptBy before kept ⊎ IsKeptBy after kept
    either_is before after legal legal' (inl allowed) = inl (allowed_is before legal allowed)
    either_is before after legal legal' (inr allowed) = inr (allowed_is after legal' allowed)

    inside_is : (before : State) (action : Action) (after : State) → IsLegalState basis before → IsLegalState basis after → LeavesInside before action after image → IsKeptInside before action after kept
    inside_is before (asking command reply) after legal legal' leaves = either_is before after legal legal' leaves
    inside_is before (storing raws) after legal legal' leaves = either_is before after legal legal' leaves
    inside_is before (failing raws) after legal legal' leaves = either_is before after legal legal' leaves
    inside_is before (keeping reply) after legal legal' (inl allowed) = inl (allowed_is before legal allowed)
    inside_is before (keeping reply) after legal legal' (inr between) = inr (between_is (kept_of before.log) after legal' between)

    left_is : (last : State) (cut : Option Transition) → IsLegalState basis last → Leaves basis last cut image → IsLeft last cut kept
    left_is last None legal leaves = allowed_is last legal leaves
    left_is last (Some cut) legal (transition, leaves) = inside_is last cut.action cut.after legal transition.1 leaves

  -- ---- all of it begins with what was kept before

  by_begins : (state : State) (kept : List Kept) → IsKeptBy state kept → BeginsWith (kept_of state.log) kept
  by_begins state kept (inl is) = ([], is ∙ sym (append-nil (kept_of state.log)))
  by_begins state kept (inr is) = (state.doubt, is)

  further : (before after : State) (kept : List Kept) → IsFrontOf before.log after.log → IsKeptBy before kept ⊎ IsKeptBy after kept → BeginsWith (kept_of before.log) kept
  further before after kept front (inl by) = by_begins before kept by
  further before after kept front (inr by) = begins_further (kept_of before.log) (kept_of after.log) kept (front_kept before.log after.log front) (by_begins after kept by)

  inside_begins : (before : State) (action : Action) (after : State) (kept : List Kept) → IsFrontOf before.log after.log → IsKeptInside before action after kept → BeginsWith (kept_of before.log) kept
  inside_begins before (asking command reply) after kept front inside = further before after kept front inside
  inside_begins before (storing raws) after kept front inside = further before after kept front inside
  inside_begins before (failing raws) after kept front inside = further before after kept front inside
  inside_begins before (keeping reply) after kept front (inl by) = by_begins before kept by
  inside_begins before (keeping reply) after kept front (inr between) = (between.more, between.kept_is)

  left_begins : (last : State) (cut : Option Transition) (image : List ℕ) (kept : List Kept) → IsLegalState basis last → Leaves basis last cut image → IsLeft last cut kept → BeginsWith (kept_of last.log) kept
  left_begins last None image kept legal leaves left = by_begins last kept left
  left_begins last (Some cut) image kept legal (transition, leaves) left = inside_begins last cut.action cut.after kept (does_front basis last cut.action cut.after is_told legal transition.0) left

-- ---- the next life

no_journal : (kept : List Kept) → StandsFor [] kept → ⊥
no_journal kept stands = let h = stands.begins.whole in cc

some_journal : (basis : Basis) (is_told : IsTrue basis.is_told) (last : State) (cut : Option Transition) (image : List ℕ) → Leaves basis last cut image → (kept : List Kept) × StandsFor image kept
some_journal basis is_told last None image (inl stands) = (kept_of last.log, stands)
some_journal basis is_told last None image (inr stands) = (kept_with_doubt last, stands)
some_journal basis is_told last (Some cut) image (transition, leaves) = inside last cut.action cut.after leaves where
  allowed : (state : State) → Allowed state image → (kept : List Kept) × StandsFor image kept
  allowed state (inl stands) = (kept_of state.log, stands)
  allowed state (inr stands) = (kept_with_doubt state, stands)

  either : (before after : State) → Allowed before image ⊎ Allowed after image → (kept : List Kept) × StandsFor image kept
  either before after (inl here) = allowed before here
  either before after (inr here) = allowed after here

  inside : (before : State) (action : Action) (after : State) → LeavesInside before action after image → (kept : List Kept) × StandsFor image kept
  inside before (asking command reply) after here = either before after here
  inside before (storing raws) after here = either before after here
  inside before (failing raws) after here = either before after here
  inside before (keeping reply) after (inl here) = allowed before here
  inside before (keeping reply) after (inr between) = (kept_of before.log ++ between.more, between.stands)

found_stands : (life : Life) (opening : List Kept) → Leaves life.basis (ended life) life.cut life.image → IsTrue life.basis.is_told → IsFound life.image opening → StandsFor life.image opening
found_stands life opening leaves is_told (inr stands) = stands
found_stands life opening leaves is_told (inl (none, nothing)) =
    let some = some_journal life.basis is_told (ended life) life.cut life.image leaves in
    absurd (no_journal some.0 (subst (λ (image : List ℕ). StandsFor image some.0) none some.1))

module _ (found : List ℕ) (life next : Life) (later : List Life) (all : AllLive found (life ∷ next ∷ later)) where
  pub next_left : IsLeft (ended life) life.cut next.opening
  next_left =
      let stands = found_stands life next.opening all.0.ends all.0.is_told all.1.0.is_found in
      let whole : AreWhole next.opening = subst AreWhole (kept_all next.opening) (legal_whole next.basis (log_of next.opening) all.1.0.is_told all.1.0.legal) in
      left_is life.basis all.0.is_told life.image next.opening whole stands (ended life) life.cut (ends_legal found life all.0) all.0.ends

  next_begins : BeginsWith (kept_of (ended life).log) next.opening
  next_begins = left_begins life.basis all.0.is_told (ended life) life.cut life.image next.opening (ends_legal found life all.0) all.0.ends next_left

-- ---- every later life

pub later_begin : (front : List Kept) (found : List ℕ) (life : Life) (later : List Life) → AllLive found (life ∷ later) → BeginsWith front (kept_of (ended life).log)
    → AllByRecursion (λ next. BeginsWith front next.opening) later
later_begin front found life [] all begins = tt
later_begin front found life (next ∷ later) all begins =
    let opens = begins_further front (kept_of (ended life).log) next.opening begins (next_begins found life next later all) in
    let goes_on : BeginsWith next.opening (kept_of (ended next).log) =
    subst (λ (k : List Kept). BeginsWith k (kept_of (ended next).log)) (kept_all next.opening) (front_kept (log_of next.opening) (ended next).log (ends_behind life.image next all.1.0)) in
    (opens, later_begin front life.image next later all.1 (begins_further front next.opening (kept_of (ended next).log) opens goes_on))

-- what was kept in a state that the end begins with
pub kept_later : (found : List ℕ) (life : Life) (later : List Life) → AllLive found (life ∷ later) → (log : List Change) → IsFrontOf log (ended life).log
    → AllByRecursion (λ next. BeginsWith (kept_of log) next.opening) later
kept_later found life later all log front = later_begin (kept_of log) found life later all (front_kept log (ended life).log front)

pub in_each_state : (P : State → Type 0) (found : List ℕ) (life : Life) → Lives found life → ((state : State) → IsLegalState life.basis state → IsFrontOf state.log (ended life).log → P state) → InEachState P life
in_each_state P found life lives each = (
  each (opened life) (starts_legal found life lives) (ends_behind found life lives),
  at_each life.basis lives.is_told (λ transition. P transition.after) (ended life) (opened life) life.transitions (starts_legal found life lives) lives.goes refl
      (λ old transition legal does legal' front. each transition.after legal' front),
)

-- each state of a life has its opening in front
pub each_state_behind : (P : State → Type 0) (found : List ℕ) (life : Life) → Lives found life → ((state : State) → IsFrontOf (log_of life.opening) state.log → P state) → InEachState P life
each_state_behind P found life lives each =
    (each (opened life) (front_itself (log_of life.opening)), behind (opened life) life.transitions (front_itself (log_of life.opening)) (starts_legal found life lives) lives.goes) where
      behind : (before : State) (transitions : List Transition) → IsFrontOf (log_of life.opening) before.log → IsLegalState life.basis before → Follow life.basis before transitions → AllByRecursion (λ transition. P transition.after) transitions
      behind before [] front legal goes = tt
      behind before (transition ∷ transitions) front legal goes =
          let front' = front_further (log_of life.opening) before.log transition.after.log front (does_front life.basis before transition.action transition.after lives.is_told legal goes.0.0) in
          (each transition.after front', behind transition.after transitions front' goes.0.1 goes.1)

pub later_lives : (found : List ℕ) (lives : List Life) → AllLive found lives → AllByRecursion (λ next. (bytes : List ℕ) × Lives bytes next) lives
later_lives found [] all = tt
later_lives found (life ∷ lives) all = ((found, all.0), later_lives life.image lives all.1)

pub keeps_changes : KeepsChanges
keeps_changes = record {
  next = next_left;
  later = λ found life later all. in_each_state _ found life all.0 (λ state legal front. kept_later found life later all state.log front);
}
