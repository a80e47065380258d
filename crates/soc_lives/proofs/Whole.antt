-- A journal is that of one list of changes, where they are kept changes of legal logs over a disk that tells its content.
use Rattle.std.proofs.Common.{◌≡◌, ℕ, Bool, true, false, ◌&&◌, not, IsTrue, List, [], ◌∷◌, ◌++◌, length, map, reverse, take, drop, Option, Some, None, IfSome, IsSome, IsSomeAnd, sym, ap, subst, ◌∙◌, refl, arith}
use Rattle.std.specs.Prelude.{bytes_eq, ⊤, ◌||◌}
use Rattle.std.specs.List.{AllByRecursion, list_any}
use Rattle.std.specs.Option.{option_map_or}
use Rattle.std.proofs.Math.Seq.{drop-append_seam, take-append_seam}
use Rattle.std.proofs.lemmas.List.Elements.{filter_map-append}
use Rattle.soc_base.proofs.Folk.{all_push}
use Rattle.soc_raw.specs.CrashId.{IsId}
use Rattle.soc_raw.specs.Record.{Crash, IsCrash, record_of}
use Rattle.soc_raw.proofs.Ids.{id_len}
use Rattle.soc_raw.proofs.Records.{same_crash}
use Rattle.soc_schema.specs.declared.value.Cell.{Cell}
use Rattle.soc_schema.specs.RowText.{HasText, row_text}
use Rattle.soc_schema.proofs.RowTextLemmas.{HasText-ends, HasText-reads, IsRow-short}
use Rattle.soc_journal.specs.Entries.{Entry}
use Rattle.soc_journal.proofs.Once.{text_once}
use Rattle.soc_ledger.specs.declared.event.Event.{Event}
use Rattle.soc_ledger.specs.Events.{is_held, was_accepted, was_withdrawn}
use Rattle.soc_ledger.specs.Legal.{IsLegalBack}
use Rattle.soc_ledger.proofs.Lists.{same_text, true_is_not_false}
use Rattle.soc_desk.specs.Basis.{Basis}
use Rattle.soc_desk.specs.Log.{Accepted, KeptReport, Change, Kept, accept, ask, withdraw, report, keep, done, stop, accepted_in, accepted_of, event_of, events, AreSoundBack, IsLegal}
use Rattle.soc_desk.specs.State.{StandsFor, entries_of, entry_of, kept_in, kept_of}
use Rattle.soc_desk.proofs.Logs.{has_id, reverse-cons, reverse-map, reverse-twice, was_accepted-is}
use Rattle.soc_desk.proofs.Views.{all-filter_map, all_both, all_weaker, filter_map-all}

-- ---- the entry of one change

-- the entry of the change tells all of it
abbrev pub IsWhole : Kept → Type 0
IsWhole (accept crash) = IsSomeAnd crash.raw (λ raw. (raw.id ≡ crash.id) × IsCrash raw)
IsWhole (ask id) = ⊤
IsWhole (withdraw id) = ⊤
IsWhole (report made) = (length made.id ≡ 36) × (length made.digest ≡ 32) × HasText made.row (row_text made.row)

same_accept : (id id' : List ℕ) (raw raw' : Option Crash) → IsSomeAnd raw (λ r. (r.id ≡ id) × IsCrash r) → IsSomeAnd raw' (λ r. (r.id ≡ id') × IsCrash r)
    → option_map_or record_of raw [] ≡ option_map_or record_of raw' [] → accept record { id = id; raw = raw } ≡ accept record { id = id'; raw = raw' }
same_accept id id' None raw' whole whole' same = absurd whole
same_accept id id' (Some r) None whole whole' same = absurd whole'
same_accept id id' (Some r) (Some r') whole whole' same =
    let one : r ≡ r' = same_crash r r' whole.1 whole'.1 same in
    ap (λ i. accept record { id = i; raw = Some r }) (sym whole.0 ∙ ap (λ (c : Crash). c.id) one ∙ whole'.0) ∙ ap (λ c. accept record { id = id'; raw = Some c }) one

split : (a b r s : List ℕ) → length a ≡ length b → a ++ r ≡ b ++ s → (a ≡ b) × (r ≡ s)
split a b r s long same = (
  sym (take-append_seam a r) ∙ (ap (λ l. take (length a) l) same ∙ (ap (λ n. take n (b ++ s)) long ∙ take-append_seam b s)),
  sym (drop-append_seam a r) ∙ (ap (λ l. drop (length a) l) same ∙ (ap (λ n. drop n (b ++ s)) long ∙ drop-append_seam b s)),
)

same_row : (row row' : List Cell) → HasText row (row_text row) → HasText row' (row_text row') → row_text row ≡ row_text row' → row ≡ row'
same_row row row' has has' same =
    let short = IsRow-short row has.is_row in
    let reads = HasText-reads (length row) (row_text row) _ row refl short has in
    sym (HasText-ends (length row) (row_text row) _ [] row row' refl short reads (subst (λ t. HasText row' t) (sym same) has')).0

same_report : (made made' : KeptReport) → IsWhole (report made) → IsWhole (report made') → made.id ++ (made.digest ++ row_text made.row) ≡ made'.id ++ (made'.digest ++ row_text made'.row)
    → report made ≡ report made'
same_report made made' whole whole' same =
    let ids = split made.id made'.id (made.digest ++ row_text made.row) (made'.digest ++ row_text made'.row) (whole.0 ∙ sym whole'.0) same in
    let digests = split made.digest made'.digest (row_text made.row) (row_text made'.row) (whole.1 ∙ sym whole'.1) ids.1 in
    let rows : made.row ≡ made'.row = same_row made.row made'.row whole.2 whole'.2 digests.1 in
    ap (λ i. report record { id = i; digest = made.digest; row = made.row }) ids.0
    ∙ (ap (λ d. report record { id = made'.id; digest = d; row = made.row }) digests.0 ∙ ap (λ r. report record { id = made'.id; digest = made'.digest; row = r }) rows)

body_is : (change other : Kept) → entry_of change ≡ entry_of other → (entry_of change).body ≡ (entry_of other).body
body_is change other same = ap (λ (entry : Entry). entry.body) same

kind_is : (change other : Kept) → entry_of change ≡ entry_of other → (entry_of change).kind ≡ (entry_of other).kind
kind_is change other same = ap (λ (entry : Entry). entry.kind) same

same_change : (change other : Kept) → IsWhole change → IsWhole other → entry_of change ≡ entry_of other → change ≡ other
same_change (accept crash) (accept crash') whole whole' same = same_accept crash.id crash'.id crash.raw crash'.raw whole whole' (body_is (accept crash) (accept crash') same)
same_change (ask id) (ask id') whole whole' same = ap ask (body_is (ask id) (ask id') same)
same_change (withdraw id) (withdraw id') whole whole' same = ap withdraw (body_is (withdraw id) (withdraw id') same)
same_change (report made) (report made') whole whole' same = same_report made made' whole whole' (body_is (report made) (report made') same)
same_change (accept crash) (ask id) whole whole' same = let h : 65 ≡ 81 = kind_is (accept crash) (ask id) same in absurd (omega (arith, h))
same_change (accept crash) (withdraw id) whole whole' same = let h : 65 ≡ 87 = kind_is (accept crash) (withdraw id) same in absurd (omega (arith, h))
same_change (accept crash) (report made) whole whole' same = let h : 65 ≡ 82 = kind_is (accept crash) (report made) same in absurd (omega (arith, h))
same_change (ask id) (accept crash) whole whole' same = let h : 81 ≡ 65 = kind_is (ask id) (accept crash) same in absurd (omega (arith, h))
same_change (ask id) (withdraw id') whole whole' same = let h : 81 ≡ 87 = kind_is (ask id) (withdraw id') same in absurd (omega (arith, h))
same_change (ask id) (report made) whole whole' same = let h : 81 ≡ 82 = kind_is (ask id) (report made) same in absurd (omega (arith, h))
same_change (withdraw id) (accept crash) whole whole' same = let h : 87 ≡ 65 = kind_is (withdraw id) (accept crash) same in absurd (omega (arith, h))
same_change (withdraw id) (ask id') whole whole' same = let h : 87 ≡ 81 = kind_is (withdraw id) (ask id') same in absurd (omega (arith, h))
same_change (withdraw id) (report made) whole whole' same = let h : 87 ≡ 82 = kind_is (withdraw id) (report made) same in absurd (omega (arith, h))
same_change (report made) (accept crash) whole whole' same = let h : 82 ≡ 65 = kind_is (report made) (accept crash) same in absurd (omega (arith, h))
same_change (report made) (ask id) whole whole' same = let h : 82 ≡ 81 = kind_is (report made) (ask id) same in absurd (omega (arith, h))
same_change (report made) (withdraw id) whole whole' same = let h : 82 ≡ 87 = kind_is (report made) (withdraw id) same in absurd (omega (arith, h))

-- ---- lists of changes

abbrev pub AreWhole : List Kept → Type 0
AreWhole kept = AllByRecursion IsWhole kept

heads : {A : Type 0} {x y : A} {xs ys : List A} → x ∷ xs ≡ y ∷ ys → x ≡ y
heads same = cc

tails : {A : Type 0} {x y : A} {xs ys : List A} → x ∷ xs ≡ y ∷ ys → xs ≡ ys
tails same = cc

same_changes : (kept others : List Kept) → AreWhole kept → AreWhole others → entries_of kept ≡ entries_of others → kept ≡ others
same_changes [] [] whole whole' same = refl
same_changes [] (other ∷ others) whole whole' same = cc
same_changes (change ∷ kept) [] whole whole' same = cc
same_changes (change ∷ kept) (other ∷ others) whole whole' same =
    ap (λ c. c ∷ kept) (same_change change other whole.0 whole'.0 (heads same)) ∙ ap (λ k. other ∷ k) (same_changes kept others whole.1 whole'.1 (tails same))

pub one_list : (image : List ℕ) (kept others : List Kept) → AreWhole kept → AreWhole others → StandsFor image kept → StandsFor image others → kept ≡ others
one_list image kept others whole whole' stands stands' = same_changes kept others whole whole' (text_once image (entries_of kept) (entries_of others) stands stands')

-- ---- legal logs

accepted_cons : (change : Change) (older : List Change) → accepted_of (reverse (change ∷ older)) ≡ accepted_of (reverse older) ++ accepted_of (change ∷ [])
accepted_cons change older = ap accepted_of (reverse-cons change older) ∙ filter_map-append accepted_in (reverse older) (change ∷ [])

abbrev HaveIds : List Accepted → Type 0
HaveIds crashes = AllByRecursion (λ crash. IsId crash.id) crashes

all_join : {X : Type 0} (P : X → Type 0) (xs ys : List X) → AllByRecursion P xs → AllByRecursion P ys → AllByRecursion P (xs ++ ys)
all_join P [] ys all all' = all'
all_join P (x ∷ xs) ys all all' = (all.0, all_join P xs ys all.1 all')

ids_of : (change : Change) (older : List Change) → AreSoundBack (change ∷ older) → HaveIds (accepted_of (change ∷ []))
ids_of (keep (accept crash)) older sound = (sound.0.0, tt)
ids_of (keep (ask id)) older sound = tt
ids_of (keep (withdraw id)) older sound = tt
ids_of (keep (report made)) older sound = tt
ids_of (done id) older sound = tt
ids_of stop older sound = tt

have_ids : (back : List Change) → AreSoundBack back → HaveIds (accepted_of (reverse back))
have_ids [] sound = tt
have_ids (change ∷ older) sound =
    subst HaveIds (sym (accepted_cons change older)) (all_join (λ crash. IsId crash.id) (accepted_of (reverse older)) (accepted_of (change ∷ [])) (have_ids older sound.1) (ids_of change older sound))

id_among : (crashes : List Accepted) (id : List ℕ) → HaveIds crashes → list_any (has_id id) crashes ≡ true → IsId id
id_among [] id all is = absurd (true_is_not_false (sym is))
id_among (crash ∷ crashes) id all is =
    elim (bytes_eq crash.id id) as (λ b. bytes_eq crash.id id ≡ b → (b || list_any (has_id id) crashes) ≡ true → IsId id) [
      | true ↦ λ same _. subst IsId (same_text crash.id id same) all.0
      | false ↦ λ _ later. id_among crashes id all.1 later
    ] refl is

left_true : (a b : Bool) → IsTrue (a && b) → a ≡ true
left_true true b is = refl
left_true false b is = is

held_id : (basis : Basis) (older : List Change) (id : List ℕ) → AreSoundBack older → IsTrue (is_held (events basis (reverse older)) id) → IsId id
held_id basis older id sound held =
    id_among (accepted_of (reverse older)) id (have_ids older sound)
    (sym (was_accepted-is basis (reverse older) id) ∙ left_true (was_accepted (events basis (reverse older)) id) (not (was_withdrawn (events basis (reverse older)) id)) held)

-- what of a change's content its soundness tells
abbrev IsSoundKept : Kept → Type 0
IsSoundKept (accept crash) = IfSome crash.raw (λ raw. (raw.id ≡ crash.id) × IsCrash raw)
IsSoundKept (ask id) = ⊤
IsSoundKept (withdraw id) = ⊤
IsSoundKept (report made) = IsWhole (report made)

sound_one : (basis : Basis) (change : Change) (older : List Change) → AreSoundBack (change ∷ older) → IsLegalBack (event_of basis change ∷ map (event_of basis) older) → IfSome (kept_in change) IsSoundKept
sound_one basis (keep (accept crash)) older sound legal = sound.0.1
sound_one basis (keep (ask id)) older sound legal = tt
sound_one basis (keep (withdraw id)) older sound legal = tt
sound_one basis (keep (report made)) older sound legal =
    (id_len made.id (held_id basis older made.id sound.1 (subst (λ (es : List Event). IsTrue (is_held es made.id)) (reverse-map (event_of basis) older) legal.0)), sound.0.0, sound.0.3)
sound_one basis (done id) older sound legal = tt
sound_one basis stop older sound legal = tt

sound_each : (basis : Basis) (back : List Change) → AreSoundBack back → IsLegalBack (map (event_of basis) back) → AllByRecursion (λ change. IfSome (kept_in change) IsSoundKept) back
sound_each basis [] sound legal = tt
sound_each basis (change ∷ older) sound legal = (sound_one basis change older sound legal, sound_each basis older sound.1 legal.1)

pub all_turned : {X : Type 0} (P : X → Type 0) (xs : List X) → AllByRecursion P xs → AllByRecursion P (reverse xs)
all_turned P [] all = tt
all_turned P (x ∷ xs) all = subst (AllByRecursion P) (sym (reverse-cons x xs)) (all_push P (reverse xs) x (all_turned P xs all.1) all.0)

told_raw : (raw : Option Crash) (id : List ℕ) → IfSome raw (λ r. (r.id ≡ id) × IsCrash r) → IsSome raw → IsSomeAnd raw (λ r. (r.id ≡ id) × IsCrash r)
told_raw None id sound told = absurd (true_is_not_false (sym told))
told_raw (Some r) id sound told = sound

whole_one : (change : Change) → IfSome (kept_in change) IsSoundKept × IfSome (accepted_in change) (λ crash. IsSome crash.raw) → IfSome (kept_in change) IsWhole
whole_one (keep (accept crash)) (sound, told) = told_raw crash.raw crash.id sound told
whole_one (keep (ask id)) (sound, told) = tt
whole_one (keep (withdraw id)) (sound, told) = tt
whole_one (keep (report made)) (sound, told) = sound
whole_one (done id) (sound, told) = tt
whole_one stop (sound, told) = tt

pub legal_whole : (basis : Basis) (log : List Change) → IsTrue basis.is_told → IsLegal basis log → AreWhole (kept_of log)
legal_whole basis log is_told legal =
    let back = sound_each basis (reverse log) legal.sound (subst IsLegalBack (reverse-map (event_of basis) log) legal.events_legal) in
    let sound = subst (AllByRecursion (λ change. IfSome (kept_in change) IsSoundKept)) (reverse-twice log) (all_turned _ (reverse log) back) in
    let told = filter_map-all accepted_in (λ crash. IsSome crash.raw) log (legal.told is_told) in
    all-filter_map kept_in IsWhole log (all_weaker _ _ log whole_one (all_both _ _ log sound told))
