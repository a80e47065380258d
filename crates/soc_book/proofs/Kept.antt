-- Logs of kept changes: one more, the last one, and what is known of them where the disk tells nothing.
use Rattle.std.proofs.Common.{◌≡◌, ℕ, ◌+◌, ◌≤◌, Bool, true, false, not, ◌&&◌, ◌||◌, IsTrue, List, [], ◌∷◌, ◌++◌, length, map, Option, Some, None, IfSome, sym, ap, subst, ◌∙◌, refl, arith, length-append}
use Rattle.soc_book.proofs.Words.{bytes_eq, if◌then◌else◌, AllByRecursion, list_any, find, option_and_then, map-append, IsId, Crash, TellsCrash, Entry, Event, is_among, is_held, was_accepted, was_withdrawn, withdrawn_ids, IsLegalNext, same_text, true_is_not_false, Basis, Accepted, Change, Kept, accept, ask, withdraw, report, keep, accepted_of, event_of, events, raw_of, IsSound, IsLegal, AreChanges, as_told, log_of, told, entry_of, kept_of, entries_of, AreTold, has_id, was_accepted-is, and_parts}
use Rattle.soc_book.proofs.Changes.{IsLast, IsSoundCrash, accepted-more, last_of_legal, legal-next, sound_crashes}

-- ---- one more change

pub log-more : (kept : List Kept) (change : Kept) → log_of (kept ++ change ∷ []) ≡ log_of kept ++ keep change ∷ []
log-more kept change = map-append keep kept (change ∷ [])

pub kept_of-log : (kept : List Kept) → kept_of (log_of kept) ≡ kept
kept_of-log [] = refl
kept_of-log (change ∷ kept) = ap (λ (k : List Kept). change ∷ k) (kept_of-log kept)

pub told-more : (b : Bool) (kept : List Kept) (change : Kept) → log_of (map (as_told b) (kept ++ change ∷ [])) ≡ log_of (map (as_told b) kept) ++ keep (as_told b change) ∷ []
told-more b kept change = ap log_of (map-append (as_told b) kept (change ∷ [])) ∙ log-more (map (as_told b) kept) (as_told b change)

pub told_all : (kept : List Kept) → map (as_told true) kept ≡ kept
told_all [] = refl
told_all (change ∷ kept) = ap (λ (k : List Kept). change ∷ k) (told_all kept)

-- the entries that they are the changes of
pub entries_told : (basis : Basis) (entries : List Entry) (kept : List Kept) → AreChanges basis entries kept → (b : Bool) → IsTrue b → entries_of (kept_of (log_of (map (as_told b) kept))) ≡ entries
entries_told basis entries kept are true is_told = ap entries_of (kept_of-log (map (as_told true) kept) ∙ told_all kept) ∙ sym are.entries_are
entries_told basis entries kept are false is_told = absurd (true_is_not_false (sym is_told))

-- ---- events without contents

event_told : (basis : Basis) (b : Bool) (change : Kept) → event_of basis (keep (as_told b change)) ≡ event_of basis (keep change)
event_told basis true change = refl
event_told basis false (accept crash) = refl
event_told basis false _ = refl

pub events_told : (basis : Basis) (b : Bool) (kept : List Kept) → events basis (log_of (map (as_told b) kept)) ≡ events basis (log_of kept)
events_told basis b [] = refl
events_told basis b (change ∷ kept) = ap (λ (e : Event). e ∷ events basis (log_of (map (as_told b) kept))) (event_told basis b change) ∙ ap (λ (es : List Event). event_of basis (keep change) ∷ es) (events_told basis b kept)

-- which crashes are held doesn't depend on whose reports count
withdrawn_alike : (basis basis' : Basis) (log : List Change) → withdrawn_ids (events basis log) ≡ withdrawn_ids (events basis' log)
withdrawn_alike basis basis' [] = refl
withdrawn_alike basis basis' (keep (withdraw id) ∷ log) = ap (λ (ids : List (List ℕ)). id ∷ ids) (withdrawn_alike basis basis' log)
withdrawn_alike basis basis' (_ ∷ log) = withdrawn_alike basis basis' log

pub accepted_alike : (basis basis' : Basis) (log : List Change) (id : List ℕ) → was_accepted (events basis log) id ≡ was_accepted (events basis' log) id
accepted_alike basis basis' log id = was_accepted-is basis log id ∙ sym (was_accepted-is basis' log id)

pub held_alike : (basis basis' : Basis) (log : List Change) (id : List ℕ) → is_held (events basis log) id ≡ is_held (events basis' log) id
held_alike basis basis' log id =
    ap (λ b. b && not (was_withdrawn (events basis log) id)) (accepted_alike basis basis' log id)
    ∙ ap (λ ids. was_accepted (events basis' log) id && not (is_among ids id)) (withdrawn_alike basis basis' log)

-- ---- legal logs

id_found : (crashes : List Accepted) (id : List ℕ) → AllByRecursion IsSoundCrash crashes → list_any (has_id id) crashes ≡ true → IsId id
id_found [] id sound is = absurd (true_is_not_false (sym is))
id_found (crash ∷ crashes) id sound is =
    elim (bytes_eq crash.id id) as (λ b. bytes_eq crash.id id ≡ b → (b || list_any (has_id id) crashes) ≡ true → IsId id) [
      | true ↦ λ same _. subst IsId (same_text crash.id id same) sound.0.0
      | false ↦ λ _ later. id_found crashes id sound.1 later
    ] refl is

-- the id of a held crash is one
pub held_id : (basis : Basis) (log : List Change) (id : List ℕ) → IsLegal basis log → IsTrue (is_held (events basis log) id) → IsId id
held_id basis log id legal held =
    id_found (accepted_of log) id (sound_crashes log legal.sound) (sym (was_accepted-is basis log id) ∙ (and_parts (was_accepted (events basis log) id) (not (was_withdrawn (events basis log) id)) held).0)

-- ---- the changes of entries

pub heads : {A : Type 0} {x y : A} {xs ys : List A} → x ∷ xs ≡ y ∷ ys → x ≡ y
heads same = cc

pub tails : {A : Type 0} {x y : A} {xs ys : List A} → x ∷ xs ≡ y ∷ ys → xs ≡ ys
tails same = cc

no_end : {A : Type 0} (ys : List A) (y : A) → ys ++ y ∷ [] ≡ [] → ⊥
no_end [] y same = cc
no_end (z ∷ ys) y same = cc

pub record Splits {A B : Type 0} (f : A → B) (xs : List A) (ys : List B) (y : B) : Type 0 where
  pub front : List A
  pub last : A
  pub whole : xs ≡ front ++ last ∷ []
  pub front_is : map f front ≡ ys
  pub last_is : f last ≡ y

split_last : {A B : Type 0} (f : A → B) (xs : List A) (ys : List B) (y : B) → ys ++ y ∷ [] ≡ map f xs → Splits f xs ys y
split_last f [] ys y same = absurd (no_end ys y same)
split_last f (x ∷ []) [] y same = record { front = []; last = x; whole = refl; front_is = refl; last_is = sym (heads same) }
split_last f (x ∷ z ∷ xs) [] y same = cc
split_last f (x ∷ xs) (b ∷ ys) y same =
    let rest = split_last f xs ys y (tails same) in
    record {
      front = x ∷ rest.front;
      last = rest.last;
      whole = ap (λ l. x ∷ l) rest.whole;
      front_is = ap (λ l. f x ∷ l) rest.front_is ∙ ap (λ b'. b' ∷ ys) (sym (heads same));
      last_is = rest.last_is;
    }

-- what is known of the last change of entries
pub record IsLastOf (basis : Basis) (entries : List Entry) (entry : Entry) (others : List Kept) : Type 0 where
  pub front : List Kept
  pub last : Kept
  pub whole : others ≡ front ++ last ∷ []
  pub are : AreChanges basis entries front
  pub entry_is : entry_of last ≡ entry
  pub is : IsLast (told basis) (log_of front) (keep last)
  pub few : length (accepted_of (log_of front)) + length (accepted_of (keep last ∷ [])) ≤ 4294967295

pub last_of : (basis : Basis) (entries : List Entry) (entry : Entry) (others : List Kept) → AreChanges basis (entries ++ entry ∷ []) others → IsLastOf basis entries entry others
last_of basis entries entry others are =
    let parts : Splits entry_of others entries entry = split_last entry_of others entries entry are.entries_are in
    let log : log_of others ≡ log_of parts.front ++ keep parts.last ∷ [] = ap log_of parts.whole ∙ log-more parts.front parts.last in
    let is = last_of_legal (told basis) (log_of parts.front) (keep parts.last) (subst (IsLegal (told basis)) log are.legal) in
    let all : length (accepted_of (log_of others)) ≡ length (accepted_of (log_of parts.front)) + length (accepted_of (keep parts.last ∷ [])) =
    ap (λ (l : List Change). length (accepted_of l)) log
    ∙ (ap (λ (cs : List Accepted). length cs) (accepted-more (log_of parts.front) (keep parts.last)) ∙ length-append (accepted_of (log_of parts.front)) (accepted_of (keep parts.last ∷ []))) in
    let most : length (accepted_of (log_of others)) ≤ 4294967295 = are.few in
    record {
      front = parts.front;
      last = parts.last;
      whole = parts.whole;
      are = record { entries_are = sym parts.front_is; legal = is.legal; few = omega (arith, all, most) };
      entry_is = parts.last_is;
      is = is;
      few = omega (arith, all, most);
    }

-- one more change that may follow
pub changes_more : (basis : Basis) (entries : List Entry) (kept : List Kept) (change : Kept) → AreChanges basis entries kept → IsLegalNext (events basis (log_of kept)) (event_of basis (keep change)) → IsSound (log_of kept) (keep change)
    → AreTold (accepted_of (keep change ∷ [])) → length (accepted_of (log_of kept)) + length (accepted_of (keep change ∷ [])) ≤ 4294967295 → AreChanges basis (entries ++ entry_of change ∷ []) (kept ++ change ∷ [])
changes_more basis entries kept change are next sound crashes few =
    let more = legal-next (told basis) (log_of kept) (keep change) are.legal next sound (λ is_told. crashes) in
    let all : length (accepted_of (log_of (kept ++ change ∷ []))) ≡ length (accepted_of (log_of kept)) + length (accepted_of (keep change ∷ [])) =
    ap (λ (l : List Change). length (accepted_of l)) (log-more kept change)
    ∙ (ap (λ (cs : List Accepted). length cs) (accepted-more (log_of kept) (keep change)) ∙ length-append (accepted_of (log_of kept)) (accepted_of (keep change ∷ []))) in
    record {
      entries_are = ap (λ (es : List Entry). es ++ entry_of change ∷ []) are.entries_are ∙ sym (map-append entry_of kept (change ∷ []));
      legal = subst (IsLegal (told basis)) (sym (log-more kept change)) more;
      few = omega (arith, all, few);
    }

-- ---- what is known where the disk tells nothing

no_raw : (kept : List Kept) → AllByRecursion (λ (crash : Accepted). crash.raw ≡ None) (accepted_of (log_of (map (as_told false) kept)))
no_raw [] = tt
no_raw (accept crash ∷ kept) = (refl, no_raw kept)
no_raw (_ ∷ kept) = no_raw kept

found_none : (id : List ℕ) (crashes : List Accepted) → AllByRecursion (λ (crash : Accepted). crash.raw ≡ None) crashes → option_and_then (λ (crash : Accepted). crash.raw) (find (has_id id) crashes) ≡ None
found_none id [] none = refl
found_none id (crash ∷ crashes) none =
    elim (bytes_eq crash.id id) as (λ b. option_and_then (λ (c : Accepted). c.raw) (if b then Some crash else find (has_id id) crashes) ≡ None) [
      | true ↦ none.0
      | false ↦ found_none id crashes none.1
    ]

pub untold_raw : (kept : List Kept) (id : List ℕ) → raw_of (log_of (map (as_told false) kept)) id ≡ None
untold_raw kept id = found_none id (accepted_of (log_of (map (as_told false) kept))) (no_raw kept)

untold_sound : (kept : List Kept) (change : Kept) → IsSound (log_of kept) (keep change) → IsSound (log_of (map (as_told false) kept)) (keep (as_told false change))
untold_sound kept (accept crash) sound = (sound.0, tt)
untold_sound kept (ask id) sound = tt
untold_sound kept (withdraw id) sound = tt
untold_sound kept (report made) sound =
    (sound.0, sound.1, subst (λ (o : Option Crash). IfSome o (λ raw. TellsCrash raw made.row)) (sym (untold_raw kept made.id)) tt, sound.3)

sound_told : (b : Bool) (kept : List Kept) (change : Kept) → IsSound (log_of kept) (keep change) → IsSound (log_of (map (as_told b) kept)) (keep (as_told b change))
sound_told true kept change sound = subst (λ (k : List Kept). IsSound (log_of k) (keep change)) (sym (told_all kept)) sound
sound_told false kept change sound = untold_sound kept change sound

next_told : (basis : Basis) (b : Bool) (kept : List Kept) (change : Kept) → IsLegalNext (events basis (log_of kept)) (event_of basis (keep change)) → IsLegalNext (events basis (log_of (map (as_told b) kept))) (event_of basis (keep (as_told b change)))
next_told basis b kept change next =
    subst (λ (es : List Event). IsLegalNext es (event_of basis (keep (as_told b change)))) (sym (events_told basis b kept))
    (subst (λ (e : Event). IsLegalNext (events basis (log_of kept)) e) (sym (event_told basis b change)) next)

crashes_told : (b : Bool) (change : Kept) → AreTold (accepted_of (keep change ∷ [])) → IsTrue b → AreTold (accepted_of (keep (as_told b change) ∷ []))
crashes_told true change crashes is = crashes
crashes_told false change crashes is = absurd (true_is_not_false (sym is))

-- one more change of a legal log, with what is known of it
pub told_legal_more : (basis : Basis) (kept : List Kept) (change : Kept) → IsLegal basis (log_of (map (as_told basis.is_told) kept)) → IsLegalNext (events basis (log_of kept)) (event_of basis (keep change)) → IsSound (log_of kept) (keep change)
    → AreTold (accepted_of (keep change ∷ [])) → IsLegal basis (log_of (map (as_told basis.is_told) (kept ++ change ∷ [])))
told_legal_more basis kept change legal next sound crashes =
    subst (IsLegal basis) (sym (told-more basis.is_told kept change))
    (legal-next basis (log_of (map (as_told basis.is_told) kept)) (keep (as_told basis.is_told change)) legal (next_told basis basis.is_told kept change next) (sound_told basis.is_told kept change sound)
    (crashes_told basis.is_told change crashes))
