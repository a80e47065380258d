-- Logs one event after the other.
use Rattle.std.proofs.Common.{◌≡◌, ℕ, Bool, true, false, not, ◌&&◌, ◌||◌, List, [], ◌∷◌, ◌++◌, length, reverse, None, sym, ap, subst, ◌∙◌, refl}
use Rattle.std.specs.Prelude.{IsTrue, bytes_eq, filter_map, is_some, if◌then◌else◌}
use Rattle.std.proofs.lemmas.List.{append-nil, reverse-reverse}
use Rattle.std.proofs.lemmas.List.Folds.{list_any-append}
use Rattle.soc_base.proofs.Folk.{or_no_left, or_no_right}
use Rattle.soc_ledger.specs.declared.crash.Standing.{Standing}
use Rattle.soc_ledger.specs.declared.event.Event.{Event}
use Rattle.soc_ledger.specs.declared.event.Event.TheVariants.{Accepted, Asked, Withdrawn, Reported, Done, Stopped}
use Rattle.soc_ledger.specs.Events.{accepted_in, accepted_ids, is_among, was_accepted, was_withdrawn, is_held}
use Rattle.soc_ledger.specs.Due.{is_due}
use Rattle.soc_ledger.specs.Legal.{IsLegal, IsLegalBack, IsLegalNext}
use Rattle.soc_ledger.specs.State.{standing_of}
use Rattle.soc_ledger.specs.inner.Tables.{standing_after}
use Rattle.soc_ledger.proofs.Lists.{AreDistinct, distinct-push, reverse-first, reverse-more, same_text, true_is_not_false}
use Rattle.soc_ledger.proofs.More.{accepted_ids-more, is_about, standing_of-more}

-- what holds of no event, and of one more event behind those of which it holds
module _ (P : List Event → Type 0) (none : P []) where
  pub log_induction : ((log : List Event) (event : Event) → P log → P (log ++ event ∷ [])) → (log : List Event) → P log
  log_induction more log = subst P (reverse-reverse log) (back more (reverse log))
    where
      back : ((log : List Event) (event : Event) → P log → P (log ++ event ∷ [])) → (events : List Event) → P (reverse events)
      back more [] = none
      back more (event ∷ older) = subst P (sym (reverse-first event older)) (more (reverse older) event (back more older))

  -- the same of legal logs
  pub legal_induction : ((log : List Event) (event : Event) → IsLegal log → IsLegalNext log event → P log → P (log ++ event ∷ [])) → (log : List Event) → IsLegal log → P log
  legal_induction more log legal = subst P (reverse-reverse log) (back more (reverse log) legal)
    where
      back : ((log : List Event) (event : Event) → IsLegal log → IsLegalNext log event → P log → P (log ++ event ∷ [])) → (events : List Event) → IsLegalBack events → P (reverse events)
      back more [] legal = none
      back more (event ∷ older) legal =
          subst P (sym (reverse-first event older))
          (more (reverse older) event (subst IsLegalBack (sym (reverse-reverse older)) legal.1) legal.0 (back more older legal.1))

pub legal-more : (log : List Event) (event : Event) → IsLegal log → IsLegalNext log event → IsLegal (log ++ event ∷ [])
legal-more log event legal next =
    subst IsLegalBack (sym (reverse-more log event)) (subst (λ older. IsLegalNext older event) (sym (reverse-reverse log)) next, legal)

-- ---- the accepted ids

pub not_true : (b : Bool) → IsTrue (not b) → b ≡ false
not_true true is = absurd (true_is_not_false (sym is))
not_true false is = refl

pub distinct_ids : (log : List Event) → IsLegal log → AreDistinct (accepted_ids log)
distinct_ids log legal = legal_induction (λ l. AreDistinct (accepted_ids l)) tt more log legal
  where
    same : (log : List Event) (event : Event) → filter_map accepted_in (event ∷ []) ≡ [] → AreDistinct (accepted_ids log) → AreDistinct (accepted_ids (log ++ event ∷ []))
    same log event none distinct =
        subst AreDistinct (sym (accepted_ids-more log event ∙ (ap (λ ids. accepted_ids log ++ ids) none ∙ append-nil (accepted_ids log)))) distinct

    more : (log : List Event) (event : Event) → IsLegal log → IsLegalNext log event → AreDistinct (accepted_ids log) → AreDistinct (accepted_ids (log ++ event ∷ []))
    more log (Accepted id) legal next distinct = subst AreDistinct (sym (accepted_ids-more log (Accepted id))) (distinct-push (accepted_ids log) id distinct (not_true (was_accepted log id) next))
    more log (Asked id) legal next distinct = same log (Asked id) refl distinct
    more log (Withdrawn id) legal next distinct = same log (Withdrawn id) refl distinct
    more log (Reported id own) legal next distinct = same log (Reported id own) refl distinct
    more log (Done id) legal next distinct = same log (Done id) refl distinct
    more log Stopped legal next distinct = same log Stopped refl distinct

-- ---- a crash that was never accepted

abbrev pub unknown : Standing
unknown = record { withdrawn = false; due_since = None; has_report = false; is_kept = false }

abbrev IsUnknown : List Event → Type 0
IsUnknown log = (id : List ℕ) → was_accepted log id ≡ false → standing_of log id ≡ unknown

earlier : (log : List Event) (event : Event) (id : List ℕ) → was_accepted (log ++ event ∷ []) id ≡ false → (was_accepted log id ≡ false) × (is_among (filter_map accepted_in (event ∷ [])) id ≡ false)
earlier log event id none =
    let parts : (was_accepted log id || is_among (filter_map accepted_in (event ∷ [])) id) ≡ false =
    sym (ap (λ ids. is_among ids id) (accepted_ids-more log event) ∙ list_any-append (λ other. bytes_eq other id) (accepted_ids log) (filter_map accepted_in (event ∷ []))) ∙ none in
    (or_no_left (was_accepted log id) _ parts, or_no_right (was_accepted log id) _ parts)

-- an event of another crash
other_event : (log : List Event) (event : Event) (id : List ℕ) → is_about event id ≡ false → standing_of log id ≡ unknown → standing_of (log ++ event ∷ []) id ≡ unknown
other_event log event id other is =
    standing_of-more log id event ∙ (ap (λ b. if b then standing_after event (length log) (standing_of log id) else standing_of log id) other ∙ is)

held_accepted : (a w : Bool) → IsTrue (a && w) → a ≡ false → ⊥
held_accepted true w held none = true_is_not_false none
held_accepted false w held none = true_is_not_false (sym held)

-- an event that needs a held crash isn't of this one
differs : (log : List Event) (q id : List ℕ) → IsTrue (is_held log q) → was_accepted log id ≡ false → bytes_eq q id ≡ false
differs log q id held none =
    elim (bytes_eq q id) as (λ b. bytes_eq q id ≡ b → b ≡ false) [
      | true ↦ λ is. absurd (held_accepted (was_accepted log q) (not (was_withdrawn log q)) held (ap (λ u. was_accepted log u) (same_text q id is) ∙ none))
      | false ↦ λ _. refl
    ] refl

differs_due : (log : List Event) (q id : List ℕ) → IsTrue (is_due log q) → standing_of log id ≡ unknown → bytes_eq q id ≡ false
differs_due log q id due is =
    elim (bytes_eq q id) as (λ b. bytes_eq q id ≡ b → b ≡ false) [
      | true ↦ λ same. absurd (true_is_not_false (sym due ∙ ap (λ s. is_some s.due_since) (ap (λ u. standing_of log u) (same_text q id same) ∙ is)))
      | false ↦ λ _. refl
    ] refl

pub unknown_crash : (log : List Event) → IsLegal log → IsUnknown log
unknown_crash log legal = legal_induction IsUnknown (λ id none. refl) more log legal
  where
    more : (log : List Event) (event : Event) → IsLegal log → IsLegalNext log event → IsUnknown log → IsUnknown (log ++ event ∷ [])
    more log (Accepted q) legal next known id none =
        let before = earlier log (Accepted q) id none in other_event log (Accepted q) id (or_no_left (bytes_eq q id) false before.1) (known id before.0)
    more log (Asked q) legal next known id none =
        let before = earlier log (Asked q) id none in other_event log (Asked q) id (differs log q id next before.0) (known id before.0)
    more log (Withdrawn q) legal next known id none =
        let before = earlier log (Withdrawn q) id none in other_event log (Withdrawn q) id (differs log q id next before.0) (known id before.0)
    more log (Reported q own) legal next known id none =
        let before = earlier log (Reported q own) id none in other_event log (Reported q own) id (differs log q id next before.0) (known id before.0)
    more log (Done q) legal next known id none =
        let before = earlier log (Done q) id none in other_event log (Done q) id (differs_due log q id next (known id before.0)) (known id before.0)
    more log Stopped legal next known id none = let before = earlier log Stopped id none in other_event log Stopped id refl (known id before.0)
