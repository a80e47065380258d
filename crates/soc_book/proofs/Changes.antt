-- One more change that may follow a legal log, and what legal logs tell of their crashes.
use Rattle.std.proofs.Common.{◌≡◌, inl, inr, ℕ, IsTrue, List, [], ◌∷◌, ◌++◌, map, reverse, IfSome, IsSome, sym, ap, subst, ◌∙◌, refl}
use Rattle.soc_book.proofs.Words.{AllByRecursion, filter_map-append, append-nil, map-append, IsId, IsCrash, Event, accepted_ids, IsLegalBack, IsLegalNext, AreLegal, all-more, legal-more, Basis, Change, Kept, Accepted, accept, keep, accepted_in, accepted_of, event_of, events, IsSound, AreSoundBack, IsLegal, IsLegalState, Allowed, settled, entry_of, entries_of, kept_in, kept_of, events-more, reverse-cons, reverse-more, reverse-twice, AreTold}
use Rattle.std.proofs.lemmas.List.{append_assoc}
use Rattle.soc_desk.specs.State.{StandsFor}

pub accepted-more : (log : List Change) (change : Change) → accepted_of (log ++ change ∷ []) ≡ accepted_of log ++ accepted_of (change ∷ [])
accepted-more log change = filter_map-append accepted_in log (change ∷ [])

pub kept-more : (log : List Change) (change : Kept) → kept_of (log ++ keep change ∷ []) ≡ kept_of log ++ change ∷ []
kept-more log change = filter_map-append kept_in log (keep change ∷ [])

pub entries-more : (log : List Change) (change : Kept) → entries_of (kept_of (log ++ keep change ∷ [])) ≡ entries_of (kept_of log) ++ entry_of change ∷ []
entries-more log change = ap entries_of (kept-more log change) ∙ map-append entry_of (kept_of log) (change ∷ [])

-- the same of some more changes
kept_of-keep : (changes : List Kept) → kept_of (map keep changes) ≡ changes
kept_of-keep [] = refl
kept_of-keep (change ∷ changes) = ap (λ (k : List Kept). change ∷ k) (kept_of-keep changes)

pub kept-all : (log : List Change) (changes : List Kept) → kept_of (log ++ map keep changes) ≡ kept_of log ++ changes
kept-all log changes = filter_map-append kept_in log (map keep changes) ∙ ap (λ (k : List Kept). kept_of log ++ k) (kept_of-keep changes)

pub entries-all : (log : List Change) (changes : List Kept) → entries_of (kept_of (log ++ map keep changes)) ≡ entries_of (kept_of log) ++ entries_of changes
entries-all log changes = ap entries_of (kept-all log changes) ∙ map-append entry_of (kept_of log) changes

pub events-all : (basis : Basis) (changes : List Kept) → events basis (map keep changes) ≡ map (λ (change : Kept). event_of basis (keep change)) changes
events-all basis [] = refl
events-all basis (change ∷ changes) = ap (λ (es : List Event). event_of basis (keep change) ∷ es) (events-all basis changes)

-- what a state without a doubt allows
pub allowed-plain : (log : List Change) (image : List ℕ) → Allowed (settled log) image → StandsFor image (kept_of log)
allowed-plain log image (inl text) = text
allowed-plain log image (inr text) = subst (λ (k : List Kept). StandsFor image k) (append-nil (kept_of log)) text

module _ (basis : Basis) (log : List Change) (change : Change) where
  pub legal-next : IsLegal basis log → IsLegalNext (events basis log) (event_of basis change) → IsSound log change → (IsTrue basis.is_told → AreTold (accepted_of (change ∷ [])))
      → IsLegal basis (log ++ change ∷ [])
  legal-next legal next sound told = record {
    events_legal = subst AreLegal (sym (events-more basis log change)) (legal-more (events basis log) (event_of basis change) legal.events_legal next);
    sound = subst AreSoundBack (sym (reverse-more log change)) (subst (λ (older : List Change). IsSound older change) (sym (reverse-twice log)) sound, legal.sound);
    told = λ is_told. subst AreTold (sym (accepted-more log change)) (all-more (λ (crash : Accepted). IsSome crash.raw) (accepted_of log) (accepted_of (change ∷ [])) (legal.told is_told) (told is_told));
  }

pub all_front : {X : Type 0} (P : X → Type 0) (xs ys : List X) → AllByRecursion P (xs ++ ys) → AllByRecursion P xs
all_front P [] ys all = tt
all_front P (x ∷ xs) ys all = (all.0, all_front P xs ys all.1)

all_back : {X : Type 0} (P : X → Type 0) (xs ys : List X) → AllByRecursion P (xs ++ ys) → AllByRecursion P ys
all_back P [] ys all = all
all_back P (x ∷ xs) ys all = all_back P xs ys all.1

-- what is known of the last change of a legal log
pub record IsLast (basis : Basis) (log : List Change) (change : Change) : Type 0 where
  pub legal : IsLegal basis log
  pub next : IsLegalNext (events basis log) (event_of basis change)
  pub sound : IsSound log change
  pub told : IsTrue basis.is_told → AreTold (accepted_of (change ∷ []))

pub last_of_legal : (basis : Basis) (log : List Change) (change : Change) → IsLegal basis (log ++ change ∷ []) → IsLast basis log change
last_of_legal basis log change legal =
    let all : IsLegalBack (event_of basis change ∷ reverse (events basis log)) =
    subst IsLegalBack (ap reverse (events-more basis log change) ∙ reverse-more (events basis log) (event_of basis change)) legal.events_legal in
    let sound : AreSoundBack (change ∷ reverse log) = subst AreSoundBack (reverse-more log change) legal.sound in
    let crashes : IsTrue basis.is_told → AreTold (accepted_of log ++ accepted_of (change ∷ [])) = λ is_told. subst AreTold (accepted-more log change) (legal.told is_told) in
    record {
      legal = record {
        events_legal = all.1;
        sound = sound.1;
        told = λ is_told. all_front (λ (crash : Accepted). IsSome crash.raw) (accepted_of log) (accepted_of (change ∷ [])) (crashes is_told);
      };
      next = subst (λ (es : List Event). IsLegalNext es (event_of basis change)) (reverse-twice (events basis log)) all.0;
      sound = subst (λ (older : List Change). IsSound older change) (reverse-twice log) sound.0;
      told = λ is_told. all_back (λ (crash : Accepted). IsSome crash.raw) (accepted_of log) (accepted_of (change ∷ [])) (crashes is_told);
    }

-- a front of a legal log is legal
pub legal-front : (basis : Basis) (log more : List Change) → IsLegal basis (log ++ more) → IsLegal basis log
legal-front basis log [] legal = subst (IsLegal basis) (append-nil log) legal
legal-front basis log (change ∷ more) legal =
    (last_of_legal basis log change (legal-front basis (log ++ change ∷ []) more (subst (IsLegal basis) (sym (append_assoc log (change ∷ []) more)) legal))).legal

pub settled-legal : (basis : Basis) (log : List Change) → IsLegal basis log → IsLegalState basis (settled log)
settled-legal basis log legal = record { log = legal; doubt = subst (IsLegal basis) (sym (append-nil log)) legal }

-- ---- the accepted crashes

-- the accepted ids, by the crashes
pub ids_of-log : (basis : Basis) (log : List Change) → accepted_ids (events basis log) ≡ map (λ (crash : Accepted). crash.id) (accepted_of log)
ids_of-log basis [] = refl
ids_of-log basis (keep (accept crash) ∷ log) = ap (λ ids. crash.id ∷ ids) (ids_of-log basis log)
ids_of-log basis (_ ∷ log) = ids_of-log basis log

-- a crash that is told is one, with the id under which it was accepted
abbrev pub IsSoundCrash : Accepted → Type 0
IsSoundCrash crash = IsId crash.id × IfSome crash.raw (λ raw. (raw.id ≡ crash.id) × IsCrash raw)

sound_here : (older : List Change) (change : Change) → IsSound older change → AllByRecursion IsSoundCrash (accepted_of (change ∷ []))
sound_here older (keep (accept crash)) sound = (sound, tt)
sound_here older _ sound = tt

sound_back : (back : List Change) → AreSoundBack back → AllByRecursion IsSoundCrash (accepted_of (reverse back))
sound_back [] sound = tt
sound_back (change ∷ older) sound =
    subst (AllByRecursion IsSoundCrash) (sym (ap accepted_of (reverse-cons change older) ∙ accepted-more (reverse older) change))
    (all-more IsSoundCrash (accepted_of (reverse older)) (accepted_of (change ∷ [])) (sound_back older sound.1) (sound_here (reverse older) change sound.0))

pub sound_crashes : (log : List Change) → AreSoundBack (reverse log) → AllByRecursion IsSoundCrash (accepted_of log)
sound_crashes log sound = subst (λ (l : List Change). AllByRecursion IsSoundCrash (accepted_of l)) (reverse-twice log) (sound_back (reverse log) sound)
