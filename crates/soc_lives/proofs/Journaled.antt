-- What is due by the events of a journal alone, which has neither `Done` nor stops.
use Rattle.std.proofs.Common.{◌≡◌, ◌⊎◌, inl, inr, ℕ, Bool, true, false, not, ◌&&◌, ◌||◌, IsTrue, List, [], ◌∷◌, ◌++◌, reverse, Option, Some, None, sym, ap, subst, ◌∙◌, refl}
use Rattle.std.specs.Prelude.{bytes_eq, is_some, if◌then◌else◌}
use Rattle.std.specs.List.{AllByRecursion}
use Rattle.std.proofs.lemmas.List.{append-nil}
use Rattle.soc_base.proofs.Folk.{or_no_left, or_no_right}
use Rattle.soc_ledger.specs.declared.event.Event.{Event}
use Rattle.soc_ledger.specs.declared.event.Event.TheVariants.{Accepted, Asked, Withdrawn, Reported, Done, Stopped}
use Rattle.soc_ledger.specs.Due.{due_since_back, is_due, is_due_at_once}
use Rattle.soc_ledger.specs.Events.{was_accepted, was_withdrawn}
use Rattle.soc_ledger.specs.Legal.{IsLegalBack, IsLegal}
use Rattle.soc_ledger.specs.Reported.{has_report, is_kept, kept_back, reported_back}
use Rattle.soc_ledger.proofs.Lists.{same_text, true_is_not_false}
use Rattle.soc_ledger.proofs.Logs.{not_true, unknown_crash}
use Rattle.soc_desk.specs.Basis.{Basis}
use Rattle.soc_desk.specs.Log.{Change, accept, ask, withdraw, report, keep, done, stop, events, is_own}
use Rattle.soc_desk.specs.Opens.{log_of}
use Rattle.soc_desk.specs.State.{kept_of}
use Rattle.soc_desk.proofs.Logs.{reverse-cons, reverse-twice}
use Rattle.soc_lives.proofs.Whole.{all_turned}

-- the events that a journal has
abbrev journaled : List Event → List Event
journaled [] = []
journaled (Accepted id ∷ es) = Accepted id ∷ journaled es
journaled (Asked id ∷ es) = Asked id ∷ journaled es
journaled (Withdrawn id ∷ es) = Withdrawn id ∷ journaled es
journaled (Reported id own ∷ es) = Reported id own ∷ journaled es
journaled (Done id ∷ es) = journaled es
journaled (Stopped ∷ es) = journaled es

journaled-append : (es fs : List Event) → journaled (es ++ fs) ≡ journaled es ++ journaled fs
journaled-append [] fs = refl
journaled-append (Accepted id ∷ es) fs = ap (λ (l : List Event). Accepted id ∷ l) (journaled-append es fs)
journaled-append (Asked id ∷ es) fs = ap (λ (l : List Event). Asked id ∷ l) (journaled-append es fs)
journaled-append (Withdrawn id ∷ es) fs = ap (λ (l : List Event). Withdrawn id ∷ l) (journaled-append es fs)
journaled-append (Reported id own ∷ es) fs = ap (λ (l : List Event). Reported id own ∷ l) (journaled-append es fs)
journaled-append (Done id ∷ es) fs = journaled-append es fs
journaled-append (Stopped ∷ es) fs = journaled-append es fs

journaled-turned : (es : List Event) → journaled (reverse es) ≡ reverse (journaled es)
journaled-turned [] = refl
journaled-turned (e ∷ es) =
    ap journaled (reverse-cons e es) ∙ (journaled-append (reverse es) (e ∷ []) ∙ (ap (λ (l : List Event). l ++ journaled (e ∷ [])) (journaled-turned es) ∙ first e)) where
      first : (e : Event) → reverse (journaled es) ++ journaled (e ∷ []) ≡ reverse (journaled (e ∷ es))
      first (Accepted id) = sym (reverse-cons (Accepted id) (journaled es))
      first (Asked id) = sym (reverse-cons (Asked id) (journaled es))
      first (Withdrawn id) = sym (reverse-cons (Withdrawn id) (journaled es))
      first (Reported id own) = sym (reverse-cons (Reported id own) (journaled es))
      first (Done id) = append-nil (reverse (journaled es))
      first Stopped = append-nil (reverse (journaled es))

journal_events : (basis : Basis) (log : List Change) → events basis (log_of (kept_of log)) ≡ journaled (events basis log)
journal_events basis [] = refl
journal_events basis (keep (accept crash) ∷ log) = ap (λ (l : List Event). Accepted crash.id ∷ l) (journal_events basis log)
journal_events basis (keep (ask id) ∷ log) = ap (λ (l : List Event). Asked id ∷ l) (journal_events basis log)
journal_events basis (keep (withdraw id) ∷ log) = ap (λ (l : List Event). Withdrawn id ∷ l) (journal_events basis log)
journal_events basis (keep (report made) ∷ log) = ap (λ (l : List Event). Reported made.id (is_own basis made.digest) ∷ l) (journal_events basis log)
journal_events basis (done id ∷ log) = journal_events basis log
journal_events basis (stop ∷ log) = journal_events basis log

-- ---- whatever is due is due by the journal

choose : (b : Bool) (x y x' y' : Option ℕ) → (is_some x ≡ true → is_some x' ≡ true) → (is_some y ≡ true → is_some y' ≡ true) → is_some (if b then x else y) ≡ true → is_some (if b then x' else y') ≡ true
choose true x y x' y' first second is = first is
choose false x y x' y' first second is = second is

at_once : (b : Bool) (m n : ℕ) → is_some (if b then Some m else None) ≡ true → is_some (if b then Some n else None) ≡ true
at_once true m n is = refl
at_once false m n is = is

not_done : (b : Bool) (y y' : Option ℕ) → (is_some y ≡ true → is_some y' ≡ true) → is_some (if b then None else y) ≡ true → is_some y' ≡ true
not_done true y y' second is = absurd (true_is_not_false (sym is))
not_done false y y' second is = second is

due_journaled : (id : List ℕ) (es : List Event) → is_some (due_since_back id es) ≡ true → is_some (due_since_back id (journaled es)) ≡ true
due_journaled id [] is = is
due_journaled id (Accepted other ∷ es) is = choose (bytes_eq other id) _ (due_since_back id es) _ (due_since_back id (journaled es)) (at_once (is_due_at_once other) _ _) (due_journaled id es) is
due_journaled id (Asked other ∷ es) is = choose (bytes_eq other id) (Some _) (due_since_back id es) (Some _) (due_since_back id (journaled es)) (λ _. refl) (due_journaled id es) is
due_journaled id (Withdrawn other ∷ es) is = choose (bytes_eq other id) None (due_since_back id es) None (due_since_back id (journaled es)) (λ h. h) (due_journaled id es) is
due_journaled id (Reported other own ∷ es) is = choose (bytes_eq other id && own) None (due_since_back id es) None (due_since_back id (journaled es)) (λ h. h) (due_journaled id es) is
due_journaled id (Done other ∷ es) is = not_done (bytes_eq other id) (due_since_back id es) (due_since_back id (journaled es)) (due_journaled id es) is
due_journaled id (Stopped ∷ es) is = due_journaled id es is

-- ---- whatever has a report is due by the journal, or has one there

abbrev withdraws : List ℕ → Event → Bool
withdraws id (Withdrawn other) = bytes_eq other id
withdraws id _ = false

abbrev Either : Option ℕ → Bool → Type 0
Either due kept = (is_some due ≡ true) ⊎ (kept ≡ true)

reported_one : (b own due earlier kept : Bool) (since : Option ℕ) → ((b && own && due) || earlier) ≡ true → (earlier ≡ true → Either since kept) → Either (if b && own then None else since) ((b && own) || kept)
reported_one true true due earlier kept since is rest = inr refl
reported_one true false due earlier kept since is rest = rest is
reported_one false own due earlier kept since is rest = rest is

other_one : (b : Bool) (x y : Option ℕ) (k m : Bool) → b ≡ false → Either y m → Either (if b then x else y) (if b then k else m)
other_one true x y k m is rest = absurd (true_is_not_false is)
other_one false x y k m is rest = rest

asked_one : (b : Bool) (n : ℕ) (y : Option ℕ) (m : Bool) → Either y m → Either (if b then Some n else y) (if b then false else m)
asked_one true n y m rest = inl refl
asked_one false n y m rest = rest

withdrawn_one : (b : Bool) (y : Option ℕ) (m : Bool) → b ≡ false → Either y m → Either (if b then None else y) m
withdrawn_one true y m is rest = absurd (true_is_not_false is)
withdrawn_one false y m is rest = rest

done_one : (id other : List ℕ) (b : Bool) (es : List Event) (earlier kept : Bool) → bytes_eq other id ≡ b → IsTrue (is_some (due_since_back other (reverse (reverse es)))) → (b || earlier) ≡ true
    → (earlier ≡ true → Either (due_since_back id (journaled es)) kept) → Either (due_since_back id (journaled es)) kept
done_one id other true es earlier kept same due is rest =
    let here : is_some (due_since_back id es) ≡ true =
    subst (λ (q : List ℕ). is_some (due_since_back q es) ≡ true) (same_text other id same) (subst (λ (l : List Event). is_some (due_since_back other l) ≡ true) (reverse-twice es) due) in
    inl (due_journaled id es here)
done_one id other false es earlier kept same due is rest = rest is

-- a crash that wasn't accepted before has no report
new_one : (id other : List ℕ) (b : Bool) (es : List Event) → bytes_eq other id ≡ b → IsLegalBack es → IsTrue (not (was_accepted (reverse es) other)) → reported_back id es ≡ true → b ≡ false
new_one id other false es same legal new is = refl
new_one id other true es same legal new is =
    let lost : was_accepted (reverse es) id ≡ false = subst (λ (q : List ℕ). was_accepted (reverse es) q ≡ false) (same_text other id same) (not_true _ new) in
    let none : has_report (reverse es) id ≡ false = ap (λ s. s.has_report) (unknown_crash (reverse es) (subst IsLegalBack (sym (reverse-twice es)) legal) id lost) in
    absurd (true_is_not_false (sym is ∙ (sym (ap (reported_back id) (reverse-twice es)) ∙ none)))

reported_journaled : (id : List ℕ) (es : List Event) → IsLegalBack es → AllByRecursion (λ e. withdraws id e ≡ false) es → reported_back id es ≡ true → Either (due_since_back id (journaled es)) (kept_back id es)
reported_journaled id [] legal stays is = absurd (true_is_not_false (sym is))
reported_journaled id (Accepted other ∷ es) legal stays is =
    other_one (bytes_eq other id) _ (due_since_back id (journaled es)) false (kept_back id es) (new_one id other (bytes_eq other id) es refl legal.1 legal.0 is) (reported_journaled id es legal.1 stays.1 is)
reported_journaled id (Asked other ∷ es) legal stays is = asked_one (bytes_eq other id) _ (due_since_back id (journaled es)) (kept_back id es) (reported_journaled id es legal.1 stays.1 is)
reported_journaled id (Withdrawn other ∷ es) legal stays is = withdrawn_one (bytes_eq other id) (due_since_back id (journaled es)) (kept_back id es) stays.0 (reported_journaled id es legal.1 stays.1 is)
reported_journaled id (Reported other own ∷ es) legal stays is =
    reported_one (bytes_eq other id) own (is_some (due_since_back id es)) (reported_back id es) (kept_back id es) (due_since_back id (journaled es)) is (reported_journaled id es legal.1 stays.1)
reported_journaled id (Done other ∷ es) legal stays is =
    done_one id other (bytes_eq other id) es (reported_back id es) (kept_back id es) refl legal.0 is (reported_journaled id es legal.1 stays.1)
reported_journaled id (Stopped ∷ es) legal stays is = reported_journaled id es legal.1 stays.1 is

none_withdrawn : (id : List ℕ) (es : List Event) → was_withdrawn es id ≡ false → AllByRecursion (λ e. withdraws id e ≡ false) es
none_withdrawn id [] is = tt
none_withdrawn id (Accepted other ∷ es) is = (refl, none_withdrawn id es is)
none_withdrawn id (Asked other ∷ es) is = (refl, none_withdrawn id es is)
none_withdrawn id (Withdrawn other ∷ es) is = (or_no_left (bytes_eq other id) (was_withdrawn es id) is, none_withdrawn id es (or_no_right (bytes_eq other id) (was_withdrawn es id) is))
none_withdrawn id (Reported other own ∷ es) is = (refl, none_withdrawn id es is)
none_withdrawn id (Done other ∷ es) is = (refl, none_withdrawn id es is)
none_withdrawn id (Stopped ∷ es) is = (refl, none_withdrawn id es is)

-- a crash whose report is to be kept is due by the journal
pub due_there : (basis : Basis) (log : List Change) (id : List ℕ) → IsLegal (events basis log) → was_withdrawn (events basis log) id ≡ false → has_report (events basis log) id ≡ true → is_kept (events basis log) id ≡ false
    → is_due (events basis (log_of (kept_of log))) id ≡ true
due_there basis log id legal stays reported fresh =
    ap (λ (l : List Event). is_due l id) (journal_events basis log)
    ∙ (ap (λ (l : List Event). is_some (due_since_back id l)) (sym (journaled-turned (events basis log)))
    ∙ by (reported_journaled id (reverse (events basis log)) legal (all_turned _ (events basis log) (none_withdrawn id (events basis log) stays)) reported)) where
      by : Either (due_since_back id (journaled (reverse (events basis log)))) (kept_back id (reverse (events basis log))) → is_some (due_since_back id (journaled (reverse (events basis log)))) ≡ true
      by (inl due) = due
      by (inr kept) = absurd (true_is_not_false (sym kept ∙ fresh))
