-- Withdrawn crashes in later lives.
use Rattle.std.proofs.Common.{◌≡◌, ℕ, true, ◌||◌, List, [], ◌∷◌, sym, ap, ◌∙◌, refl}
use Rattle.std.specs.Prelude.{bytes_eq}
use Rattle.std.proofs.lemmas.List.{map-append}
use Rattle.std.proofs.lemmas.List.Elements.{filter_map-append}
use Rattle.std.proofs.lemmas.List.Folds.{list_any-append}
use Rattle.soc_schema.specs.declared.caller.Caller.{Caller}
use Rattle.soc_ledger.specs.Events.{is_among, was_withdrawn, withdrawn_ids, withdrawn_in}
use Rattle.soc_desk.specs.Basis.{Basis}
use Rattle.soc_desk.specs.Laws.{IsAbsent}
use Rattle.soc_desk.specs.Log.{Change, accept, ask, withdraw, report, keep, done, stop, event_of, events}
use Rattle.soc_desk.specs.Opens.{log_of}
use Rattle.soc_desk.specs.State.{State, kept_of}
use Rattle.soc_desk.proofs.Unseen.{hides}
use Rattle.soc_desk.proofs.Views.{all_both, all_weaker}
use Rattle.soc_lives.specs.Lives.{Life, Lives}
use Rattle.soc_lives.specs.Laws.{BeginsWith, InEachState, WithdrawnStaysHidden}
use Rattle.soc_lives.proofs.Growth.{IsFrontOf}
use Rattle.soc_lives.proofs.Later.{each_state_behind, in_each_state, kept_later, later_lives}

-- whose reports count and what was done don't matter
withdrawn_kept : (basis basis' : Basis) (log : List Change) → withdrawn_ids (events basis log) ≡ withdrawn_ids (events basis' (log_of (kept_of log)))
withdrawn_kept basis basis' [] = refl
withdrawn_kept basis basis' (keep (accept crash) ∷ log) = withdrawn_kept basis basis' log
withdrawn_kept basis basis' (keep (ask id) ∷ log) = withdrawn_kept basis basis' log
withdrawn_kept basis basis' (keep (withdraw id) ∷ log) = ap (λ (ids : List (List ℕ)). id ∷ ids) (withdrawn_kept basis basis' log)
withdrawn_kept basis basis' (keep (report made) ∷ log) = withdrawn_kept basis basis' log
withdrawn_kept basis basis' (done id ∷ log) = withdrawn_kept basis basis' log
withdrawn_kept basis basis' (stop ∷ log) = withdrawn_kept basis basis' log

still_withdrawn : (basis : Basis) (log after : List Change) (id : List ℕ) → IsFrontOf log after → was_withdrawn (events basis log) id ≡ true → was_withdrawn (events basis after) id ≡ true
still_withdrawn basis log after id (piece, is) was =
    ap (λ (l : List Change). was_withdrawn (events basis l) id) is
    ∙ (ap (λ ids. is_among ids id) (ap withdrawn_ids (map-append (event_of basis) log piece) ∙ filter_map-append withdrawn_in (events basis log) (events basis piece))
    ∙ (list_any-append (λ other. bytes_eq other id) (withdrawn_ids (events basis log)) (withdrawn_ids (events basis piece)) ∙ ap (λ b. b || was_withdrawn (events basis piece) id) was))

withdrawn_later : (basis : Basis) (state : State) (id : List ℕ) → was_withdrawn (events basis state.log) id ≡ true → (next : Life) → BeginsWith (kept_of state.log) next.opening × ((found : List ℕ) × Lives found next)
    → InEachState (λ after. (caller : Caller) → IsAbsent next.basis after.log caller id) next
withdrawn_later basis state id was next ((more, is), (found, lives)) =
    let opening : IsFrontOf (log_of (kept_of state.log)) (log_of next.opening) = (log_of more, ap log_of is ∙ map-append keep (kept_of state.log) more) in
    let opened = still_withdrawn next.basis (log_of (kept_of state.log)) (log_of next.opening) id opening (sym (ap (λ ids. is_among ids id) (withdrawn_kept basis next.basis state.log)) ∙ was) in
    each_state_behind _ found next lives (λ after front caller. hides.withdrawn next.basis after.log caller id (still_withdrawn next.basis (log_of next.opening) after.log id front opened))

pub withdrawn_stays_hidden : WithdrawnStaysHidden
withdrawn_stays_hidden found life later all =
    in_each_state _ found life all.0 (λ state legal front id was.
    all_weaker _ _ later (withdrawn_later life.basis state id was) (all_both _ _ later (kept_later found life later all state.log front) (later_lives life.image later all.1)))
