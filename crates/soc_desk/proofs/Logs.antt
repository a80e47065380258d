-- What one more change at the end of a log means, and what legal logs have.
use Rattle.std.proofs.Common.{◌≡◌, ℕ, Bool, true, false, not, ◌&&◌, ◌||◌, IsTrue, List, [], ◌∷◌, ◌++◌, map, reverse, None, sym, ap, subst, ◌∙◌, refl}
use Rattle.std.specs.Prelude.{bytes_eq}
use Rattle.std.specs.List.{AllByRecursion, cons_option, list_any}
use Rattle.std.proofs.lemmas.List.{map-append, reverse-append, append-nil}
use Rattle.std.proofs.lemmas.List.Elements.{filter_map-append}
use Rattle.std.proofs.lemmas.List.Folds.{list_any-append}
use Rattle.soc_base.proofs.Folk.{or_false, or_no_left, or_no_right, all_push}
use Rattle.soc_ledger.specs.declared.event.Event.{Event}
use Rattle.soc_ledger.specs.declared.event.Event.TheVariants as E
use Rattle.soc_ledger.specs.Events.{accepted_in as accepts, withdrawn_in as withdraws, accepted_ids, withdrawn_ids, is_among, is_held, was_accepted, was_withdrawn}
use Rattle.soc_ledger.specs.Legal.{IsLegalBack, IsLegal}
use Rattle.soc_desk.specs.Basis.{Basis}
use Rattle.soc_desk.specs.Log.{Change, Accepted, accept, ask, withdraw, report, keep, done, stop, accepted_in, accepted_of, event_of, events, row_after, row_back, row_in}
use Rattle.soc_desk.proofs.Views.{turned_eq, true_is_not_false}

-- ---- lists

pub reverse-cons : {A : Type 0} (x : A) (xs : List A) → reverse (x ∷ xs) ≡ reverse xs ++ x ∷ []
reverse-cons x xs = reverse-append (x ∷ []) xs

pub reverse-more : {A : Type 0} (xs : List A) (x : A) → reverse (xs ++ x ∷ []) ≡ x ∷ reverse xs
reverse-more xs x = reverse-append xs (x ∷ [])

pub reverse-twice : {A : Type 0} (xs : List A) → reverse (reverse xs) ≡ xs
reverse-twice [] = refl
reverse-twice (x ∷ xs) = ap reverse (reverse-cons x xs) ∙ (reverse-more (reverse xs) x ∙ ap (λ t. x ∷ t) (reverse-twice xs))

pub reverse-map : {A B : Type 0} (f : A → B) (xs : List A) → reverse (map f xs) ≡ map f (reverse xs)
reverse-map f [] = refl
reverse-map f (x ∷ xs) =
    reverse-cons (f x) (map f xs)
    ∙ (ap (λ t. t ++ f x ∷ []) (reverse-map f xs)
    ∙ (sym (map-append f (reverse xs) (x ∷ [])) ∙ ap (map f) (sym (reverse-cons x xs))))

pub none_passes : {X : Type 0} (p : X → Bool) (xs : List X) → list_any p xs ≡ false → AllByRecursion (λ x. p x ≡ false) xs
none_passes p [] is = tt
none_passes p (x ∷ xs) is = (or_no_left (p x) (list_any p xs) is, none_passes p xs (or_no_right (p x) (list_any p xs) is))

held_parts : (a w b : Bool) → (a && not (w || b)) ≡ ((a && not w) && not b)
held_parts false w b = refl
held_parts true true b = refl
held_parts true false b = refl

pub not_true : (b : Bool) → IsTrue (not b) → b ≡ false
not_true true is = absurd (true_is_not_false (sym is))
not_true false is = refl

-- ---- accepted crashes

abbrev pub has_id : List ℕ → Accepted → Bool
has_id id crash = bytes_eq crash.id id

-- no two crashes have the same id
abbrev pub IsApart : List Accepted → Type 0
IsApart [] = Unit {0}
IsApart (crash ∷ crashes) = AllByRecursion (λ other. bytes_eq other.id crash.id ≡ false) crashes × IsApart crashes

apart-push : (crashes : List Accepted) (crash : Accepted) → IsApart crashes → AllByRecursion (λ other. has_id crash.id other ≡ false) crashes → IsApart (crashes ++ crash ∷ [])
apart-push [] crash apart none = (tt, tt)
apart-push (first ∷ crashes) crash apart none =
    (all_push _ crashes crash apart.0 (turned_eq first.id crash.id false none.0), apart-push crashes crash apart.1 none.1)

module _ (basis : Basis) where
  pub events-more : (log : List Change) (change : Change) → events basis (log ++ change ∷ []) ≡ events basis log ++ event_of basis change ∷ []
  events-more log change = map-append (event_of basis) log (change ∷ [])

  -- the accepted ids are those of the accepted crashes
  pub was_accepted-is : (log : List Change) (id : List ℕ) → was_accepted (events basis log) id ≡ list_any (has_id id) (accepted_of log)
  was_accepted-is [] id = refl
  was_accepted-is (keep (accept crash) ∷ log) id = ap (λ b. bytes_eq crash.id id || b) (was_accepted-is log id)
  was_accepted-is (keep (ask other) ∷ log) id = was_accepted-is log id
  was_accepted-is (keep (withdraw other) ∷ log) id = was_accepted-is log id
  was_accepted-is (keep (report made) ∷ log) id = was_accepted-is log id
  was_accepted-is (done other ∷ log) id = was_accepted-is log id
  was_accepted-is (stop ∷ log) id = was_accepted-is log id

  -- legal logs accept an id once
  apart_next : (older : List Change) (change : Change) → IsApart (accepted_of older) → IsLegalBack (event_of basis change ∷ reverse (events basis older))
      → IsApart (accepted_of (older ++ change ∷ []))
  apart_next older (keep (accept crash)) apart legal =
      let new : was_accepted (events basis older) crash.id ≡ false = not_true _ (subst (λ (l : List Event). IsTrue (not (was_accepted l crash.id))) (reverse-twice (events basis older)) legal.0) in
      subst IsApart (sym (filter_map-append accepted_in older (keep (accept crash) ∷ [])))
      (apart-push (accepted_of older) crash apart (none_passes (has_id crash.id) (accepted_of older) (sym (was_accepted-is older crash.id) ∙ new)))
  apart_next older (keep (ask id)) apart legal = subst IsApart (sym (filter_map-append accepted_in older (keep (ask id) ∷ []) ∙ append-nil (accepted_of older))) apart
  apart_next older (keep (withdraw id)) apart legal = subst IsApart (sym (filter_map-append accepted_in older (keep (withdraw id) ∷ []) ∙ append-nil (accepted_of older))) apart
  apart_next older (keep (report made)) apart legal = subst IsApart (sym (filter_map-append accepted_in older (keep (report made) ∷ []) ∙ append-nil (accepted_of older))) apart
  apart_next older (done id) apart legal = subst IsApart (sym (filter_map-append accepted_in older (done id ∷ []) ∙ append-nil (accepted_of older))) apart
  apart_next older stop apart legal = subst IsApart (sym (filter_map-append accepted_in older (stop ∷ []) ∙ append-nil (accepted_of older))) apart

  -- the events of a log whose newest change comes first
  pub events_back : (back : List Change) → reverse (events basis (reverse back)) ≡ map (event_of basis) back
  events_back back = reverse-map (event_of basis) (reverse back) ∙ ap (map (event_of basis)) (reverse-twice back)

  apart_back : (back : List Change) → IsLegalBack (map (event_of basis) back) → IsApart (accepted_of (reverse back))
  apart_back [] legal = tt
  apart_back (change ∷ older) legal =
      subst (λ (l : List Change). IsApart (accepted_of l)) (sym (reverse-cons change older))
      (apart_next (reverse older) change (apart_back older legal.1)
      (subst (λ (l : List Event). IsLegalBack (event_of basis change ∷ l)) (sym (events_back older)) legal))

  pub accepted_apart : (log : List Change) → IsLegal (events basis log) → IsApart (accepted_of log)
  accepted_apart log legal =
      subst (λ (l : List Change). IsApart (accepted_of l)) (reverse-twice log)
      (apart_back (reverse log) (subst IsLegalBack (reverse-map (event_of basis) log) legal))

-- ---- the row of a crash after one more change

pub row_in-more : (basis : Basis) (log : List Change) (change : Change) (id : List ℕ) → row_in basis (log ++ change ∷ []) id ≡ row_after basis id change (reverse log) (row_in basis log id)
row_in-more basis log change id = ap (λ back. row_back basis id back) (reverse-more log change)

-- ---- which crashes are held after one more event

pub held_plain : (log : List Event) (event : Event) (id : List ℕ) → accepts event ≡ None → withdraws event ≡ None → is_held (log ++ event ∷ []) id ≡ is_held log id
held_plain log event id no_accept no_withdrawal =
    let accepted : accepted_ids (log ++ event ∷ []) ≡ accepted_ids log =
    filter_map-append accepts log (event ∷ []) ∙ (ap (λ o. accepted_ids log ++ cons_option o []) no_accept ∙ append-nil (accepted_ids log)) in
    let withdrawn : withdrawn_ids (log ++ event ∷ []) ≡ withdrawn_ids log =
    filter_map-append withdraws log (event ∷ []) ∙ (ap (λ o. withdrawn_ids log ++ cons_option o []) no_withdrawal ∙ append-nil (withdrawn_ids log)) in
    ap (λ ids. is_among ids id && not (was_withdrawn (log ++ event ∷ []) id)) accepted
    ∙ ap (λ ids. was_accepted log id && not (is_among ids id)) withdrawn

-- one more acceptance leaves a crash that was accepted before as it is
pub held_accept : (log : List Event) (other id : List ℕ) → was_accepted log id ≡ true → is_held (log ++ E.Accepted other ∷ []) id ≡ is_held log id
held_accept log other id before =
    let accepted : was_accepted (log ++ E.Accepted other ∷ []) id ≡ true =
    ap (λ ids. is_among ids id) (filter_map-append accepts log (E.Accepted other ∷ []))
    ∙ (list_any-append (λ x. bytes_eq x id) (accepted_ids log) (other ∷ [])
    ∙ ap (λ b. b || is_among (other ∷ []) id) before) in
    let withdrawn : withdrawn_ids (log ++ E.Accepted other ∷ []) ≡ withdrawn_ids log =
    filter_map-append withdraws log (E.Accepted other ∷ []) ∙ append-nil (withdrawn_ids log) in
    ap (λ b. b && not (was_withdrawn (log ++ E.Accepted other ∷ []) id)) (accepted ∙ sym before)
    ∙ ap (λ ids. was_accepted log id && not (is_among ids id)) withdrawn

pub held_withdraw : (log : List Event) (other id : List ℕ) (b : Bool) → bytes_eq other id ≡ b → is_held (log ++ E.Withdrawn other ∷ []) id ≡ (is_held log id && not b)
held_withdraw log other id b is =
    let accepted : accepted_ids (log ++ E.Withdrawn other ∷ []) ≡ accepted_ids log =
    filter_map-append accepts log (E.Withdrawn other ∷ []) ∙ append-nil (accepted_ids log) in
    let withdrawn : was_withdrawn (log ++ E.Withdrawn other ∷ []) id ≡ (was_withdrawn log id || b) =
    ap (λ ids. is_among ids id) (filter_map-append withdraws log (E.Withdrawn other ∷ []))
    ∙ (list_any-append (λ x. bytes_eq x id) (withdrawn_ids log) (other ∷ [])
    ∙ ap (λ c. was_withdrawn log id || c) (or_false (bytes_eq other id) ∙ is)) in
    ap (λ ids. is_among ids id && not (was_withdrawn (log ++ E.Withdrawn other ∷ []) id)) accepted
    ∙ (ap (λ c. was_accepted log id && not c) withdrawn ∙ held_parts (was_accepted log id) (was_withdrawn log id) b)
