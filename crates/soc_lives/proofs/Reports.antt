-- Kept reports in later lives.
use Rattle.std.proofs.Common.{◌≡◌, inl, inr, ℕ, Bool, true, false, not, ◌&&◌, ◌||◌, List, [], ◌∷◌, ◌++◌, length, map, reverse, Option, Some, None, IfSome, sym, ap, subst, ◌∙◌, refl, append_assoc}
use Rattle.std.specs.Prelude.{bytes_eq, filter, is_some, if◌then◌else◌}
use Rattle.std.specs.List.{AllByRecursion, list_any}
use Rattle.std.specs.Option.{option_and_then, option_map, option_map_or}
use Rattle.std.proofs.lemmas.List.{append-nil, length-map, map-append, reverse-append}
use Rattle.std.proofs.lemmas.List.Elements.{filter_map-append}
use Rattle.std.proofs.lemmas.List.Folds.{list_any-append}
use Rattle.soc_base.proofs.Folk.{and_parts, or_no_left, or_no_right, or_second}
use Rattle.soc_schema.specs.declared.value.Cell.{Cell}
use Rattle.soc_ledger.specs.declared.event.Event.{Event}
use Rattle.soc_ledger.specs.declared.event.Event.TheVariants as E
use Rattle.soc_ledger.specs.Due.{due_after, due_since, is_due}
use Rattle.soc_ledger.specs.Events.{accepted_ids, held_ids, is_among, was_accepted, was_withdrawn}
use Rattle.soc_ledger.specs.Legal.{IsLegalBack, IsLegal as AreLegal}
use Rattle.soc_ledger.specs.Reported.{has_report, is_kept}
use Rattle.soc_ledger.proofs.Lists.{AreDistinct, itself, same_text, true_is_not_false, turned}
use Rattle.soc_ledger.proofs.Logs.{distinct_ids, not_true}
use Rattle.soc_ledger.proofs.More.{due_since-more}
use Rattle.soc_desk.specs.declared.desk.Reply.TheVariants as R
use Rattle.soc_desk.specs.declared.desk.Refusal.TheVariants as F
use Rattle.soc_desk.specs.Basis.{Basis}
use Rattle.soc_desk.specs.Keeps.{StepKeep, ids_to_keep, is_passed_over, is_to_keep, report_of, to_append}
use Rattle.soc_desk.specs.Log.{Accepted, Change, Kept, KeptReport, accept, ask, withdraw, report, keep, done, stop, accepted_in, accepted_of, event_of, events, is_own, row_after, row_in}
use Rattle.soc_desk.specs.Opens.{log_of}
use Rattle.soc_desk.specs.State.{IsLegalState, State, kept_of}
use Rattle.soc_desk.proofs.Logs.{IsApart, accepted_apart, events-more, has_id, none_passes, reverse-twice, row_in-more, was_accepted-is}
use Rattle.soc_desk.proofs.Views.{all_both, all_weaker, filter_map-all}
use Rattle.soc_lives.specs.Lives.{Action, AllLive, Does, Life, Lives, ended, opened}
use Rattle.soc_lives.specs.Laws.{BeginsWith, HasReport, KeptReportsStay, OpensWithReports, StayReports, is_of}
use Rattle.soc_lives.proofs.Growth.{IsFrontOf, at_each, kept_all, kept_more}
use Rattle.soc_lives.proofs.Journaled.{due_there}
use Rattle.soc_lives.proofs.Later.{kept_later, later_lives, starts_legal}

log_more : (kept : List Kept) (change : Kept) → log_of (kept ++ change ∷ []) ≡ log_of kept ++ keep change ∷ []
log_more kept change = map-append keep kept (change ∷ [])

-- ---- the report of one crash

abbrev Has : Basis → List ℕ → List Cell → List Kept → Type 0
Has basis id row kept = (row_in basis (log_of kept) id ≡ Some row) × (is_due (events basis (log_of kept)) id ≡ false)

module _ (basis : Basis) (id : List ℕ) (kept : List Kept) where
  row_next : (change : Kept) → row_in basis (log_of (kept ++ change ∷ [])) id ≡ row_after basis id (keep change) (reverse (log_of kept)) (row_in basis (log_of kept) id)
  row_next change = ap (λ (l : List Change). row_in basis l id) (log_more kept change) ∙ row_in-more basis (log_of kept) (keep change) id

  due_next : (change : Kept) → is_due (events basis (log_of (kept ++ change ∷ []))) id
      ≡ is_some (due_after id (event_of basis (keep change)) (length (events basis (log_of kept))) (due_since (events basis (log_of kept)) id))
  due_next change =
      ap (λ (l : List Change). is_due (events basis l) id) (log_more kept change)
      ∙ (ap (λ (es : List Event). is_due es id) (events-more basis (log_of kept) (keep change))
      ∙ ap is_some (due_since-more (events basis (log_of kept)) (event_of basis (keep change)) id))

  due_turned : is_due (events basis (reverse (reverse (log_of kept)))) id ≡ is_due (events basis (log_of kept)) id
  due_turned = ap (λ (l : List Change). is_due (events basis l) id) (reverse-twice (log_of kept))

pass : {X : Type 0} (b : Bool) (x y : X) → b ≡ false → (if b then x else y) ≡ y
pass true x y is = absurd (true_is_not_false is)
pass false x y is = refl

neither : (b : Bool) (since : Option ℕ) → is_some since ≡ false → is_some (if b then None else since) ≡ false
neither true since none = refl
neither false since none = none

no_count : (b own due : Bool) → due ≡ false → (b && (own && due)) ≡ false
no_count true true due is = is
no_count true false due is = refl
no_count false own due is = refl

-- what isn't of the crash, and no acceptance of it, leaves its report
has_more : (basis : Basis) (id : List ℕ) (row : List Cell) (kept : List Kept) (change : Kept) → Has basis id row kept → is_of id change ≡ false → IfSome (accepted_in (keep change)) (λ other. bytes_eq other.id id ≡ false)
    → Has basis id row (kept ++ change ∷ [])
has_more basis id row kept (accept crash) (has, idle) other apart =
    (row_next basis id kept (accept crash) ∙ has, due_next basis id kept (accept crash) ∙ (ap is_some (pass (bytes_eq crash.id id) _ (due_since (events basis (log_of kept)) id) apart) ∙ idle))
has_more basis id row kept (ask asked) (has, idle) other apart =
    (row_next basis id kept (ask asked) ∙ has, due_next basis id kept (ask asked) ∙ (ap is_some (pass (bytes_eq asked id) _ (due_since (events basis (log_of kept)) id) other) ∙ idle))
has_more basis id row kept (withdraw gone) (has, idle) other apart =
    (row_next basis id kept (withdraw gone) ∙ has, due_next basis id kept (withdraw gone) ∙ neither (bytes_eq gone id) (due_since (events basis (log_of kept)) id) idle)
has_more basis id row kept (report made) (has, idle) other apart = (
  row_next basis id kept (report made) ∙ (pass _ (Some made.row) (row_in basis (log_of kept) id) (no_count (bytes_eq made.id id) (is_own basis made.digest) _ (due_turned basis id kept ∙ idle)) ∙ has),
  due_next basis id kept (report made) ∙ neither (bytes_eq made.id id && is_own basis made.digest) (due_since (events basis (log_of kept)) id) idle,
)

has_all : (basis : Basis) (id : List ℕ) (row : List Cell) (kept more : List Kept) → Has basis id row kept → list_any (is_of id) more ≡ false
    → AllByRecursion (λ change. IfSome (accepted_in (keep change)) (λ other. bytes_eq other.id id ≡ false)) more → Has basis id row (kept ++ more)
has_all basis id row kept [] has other apart = subst (Has basis id row) (sym (append-nil kept)) has
has_all basis id row kept (change ∷ more) has other apart =
    subst (Has basis id row) (append_assoc kept (change ∷ []) more)
    (has_all basis id row (kept ++ change ∷ []) more (has_more basis id row kept change has (or_no_left (is_of id change) (list_any (is_of id) more) other) apart.0) (or_no_right (is_of id change) (list_any (is_of id) more) other) apart.1)

taken : {X : Type 0} (b : Bool) (x y : X) → b ≡ true → (if b then x else y) ≡ x
taken true x y is = refl
taken false x y is = absurd (true_is_not_false (sym is))

counts : (b own due : Bool) → b ≡ true → own ≡ true → due ≡ true → (b && (own && due)) ≡ true
counts true true due b own is = is
counts true false due b own is = own
counts false own due b own' is = b

both_true : (b own : Bool) → b ≡ true → own ≡ true → (b && own) ≡ true
both_true true own b is = is
both_true false own b is = b

-- a report by the own lists and symbols of a crash that is due
reports : (basis : Basis) (made : KeptReport) (kept : List Kept) → is_own basis made.digest ≡ true → is_due (events basis (log_of kept)) made.id ≡ true → Has basis made.id made.row (kept ++ report made ∷ [])
reports basis made kept own due = (
  row_next basis made.id kept (report made)
      ∙ taken _ (Some made.row) (row_in basis (log_of kept) made.id) (counts (bytes_eq made.id made.id) (is_own basis made.digest) _ (itself made.id) own (due_turned basis made.id kept ∙ due)),
  due_next basis made.id kept (report made) ∙ ap is_some (taken (bytes_eq made.id made.id && is_own basis made.digest) None (due_since (events basis (log_of kept)) made.id) (both_true _ _ (itself made.id) own)),
)

-- and other crashes stay due
apart_and : (b own : Bool) → b ≡ false → (b && own) ≡ false
apart_and true own is = absurd (true_is_not_false is)
apart_and false own is = refl

stays_due : (basis : Basis) (made : KeptReport) (kept : List Kept) (id : List ℕ) → bytes_eq made.id id ≡ false → is_due (events basis (log_of kept)) id ≡ true → is_due (events basis (log_of (kept ++ report made ∷ []))) id ≡ true
stays_due basis made kept id apart due =
    due_next basis id kept (report made) ∙ (ap is_some (pass (bytes_eq made.id id && is_own basis made.digest) None (due_since (events basis (log_of kept)) id) (apart_and _ _ apart)) ∙ due)

-- ---- the reports that are appended

abbrev made_by : List ℕ → List ℕ → List Cell → KeptReport
made_by id digest row = record { id = id; digest = digest; row = row }

reported_by : (digest own : Option (List ℕ)) (row : Option (List Cell)) (id : List ℕ) → own ≡ digest
    → IfSome (option_and_then (λ d. option_map (λ r. made_by id d r) row) digest) (λ made. (made.id ≡ id) × (option_map_or (λ o. bytes_eq o made.digest) own false ≡ true))
reported_by None own row id same = tt
reported_by (Some digest) own None id same = tt
reported_by (Some digest) own (Some row) id same = (refl, ap (λ (o : Option (List ℕ)). option_map_or (λ d. bytes_eq d digest) o false) same ∙ itself digest)

abbrev wraps : List KeptReport → List Kept
wraps made = map report made

module _ (basis : Basis) where
  abbrev rest_by : List Change → List (List ℕ) → Bool → KeptReport → List Kept
  rest_by log ids over made = if over then to_append basis log ids else report made ∷ to_append basis (log ++ keep (report made) ∷ []) ids

  abbrev Reported : List Kept → Type 0
  Reported kept = (made : List KeptReport) × (kept ≡ wraps made)

  are_with : (log : List Change) (ids : List (List ℕ)) → ((l : List Change) → Reported (to_append basis l ids)) → (o : Option KeptReport)
      → Reported (option_map_or (λ made. rest_by log ids (is_passed_over basis log made) made) o (to_append basis log ids))
  are_with log ids rest None = rest log
  are_with log ids rest (Some made) = over_or (is_passed_over basis log made) where
    over_or : (over : Bool) → Reported (rest_by log ids over made)
    over_or true = rest log
    over_or false = let further = rest (log ++ keep (report made) ∷ []) in (made ∷ further.0, ap (λ (k : List Kept). report made ∷ k) further.1)

  are_reports : (log : List Change) (ids : List (List ℕ)) → Reported (to_append basis log ids)
  are_reports log [] = ([], refl)
  are_reports log (id ∷ ids) = are_with log ids (λ l. are_reports l ids) (report_of basis log id)

heads : {A : Type 0} {x y : A} {xs ys : List A} → x ∷ xs ≡ y ∷ ys → x ≡ y
heads same = cc

tails : {A : Type 0} {x y : A} {xs ys : List A} → x ∷ xs ≡ y ∷ ys → xs ≡ ys
tails same = cc

one_report : {made other : KeptReport} → report made ≡ report other → made ≡ other
one_report same = cc

plain_reports : (id : List ℕ) (made : List KeptReport) → list_any (is_of id) (wraps made) ≡ false
plain_reports id [] = refl
plain_reports id (one ∷ made) = plain_reports id made

no_accepts : (id : List ℕ) (made : List KeptReport) → AllByRecursion (λ change. IfSome (accepted_in (keep change)) (λ other. bytes_eq other.id id ≡ false)) (wraps made)
no_accepts id [] = tt
no_accepts id (one ∷ made) = (tt, no_accepts id made)

-- `later` is of a life with the same digest
module _ (basis later : Basis) (same : later.digest ≡ basis.digest) (known : List Event) where
  abbrev AreDue : List Kept → List (List ℕ) → Type 0
  AreDue kept ids = AllByRecursion (λ id. (is_due (events later (log_of kept)) id ≡ true) × (was_accepted known id ≡ true)) ids

  abbrev AllHave : List Kept → List KeptReport → Type 0
  AllHave kept made = AllByRecursion (λ one. Has later one.id one.row kept × (was_accepted known one.id ≡ true)) made

  -- each of the reports that are appended of these crashes is had
  abbrev Appends : List (List ℕ) → Type 0
  Appends ids = (log : List Change) (kept : List Kept) (made : List KeptReport) → to_append basis log ids ≡ wraps made → AreDistinct ids → AreDue kept ids → AllHave (kept ++ wraps made) made

  module _ (id : List ℕ) (ids : List (List ℕ)) (rest : Appends ids) (log : List Change) (kept : List Kept) (distinct : AreDistinct (id ∷ ids)) (due : AreDue kept (id ∷ ids)) where
    have_one : (made : KeptReport) → made.id ≡ id → is_own later made.digest ≡ true → (all : List KeptReport) → report made ∷ to_append basis (log ++ keep (report made) ∷ []) ids ≡ wraps all → AllHave (kept ++ wraps all) all
    have_one made id_is own [] whole = cc
    have_one made id_is own (one ∷ others) whole =
        let one_is : made ≡ one = one_report (heads whole) in
        let next = kept ++ report made ∷ [] in
        let here_due : is_due (events later (log_of kept)) made.id ≡ true = subst (λ (q : List ℕ). is_due (events later (log_of kept)) q ≡ true) (sym id_is) due.0.0 in
        let accepted : was_accepted known made.id ≡ true = ap (was_accepted known) id_is ∙ due.0.1 in
        let apart : AllByRecursion (λ other. bytes_eq other id ≡ false) ids = none_passes (λ other. bytes_eq other id) ids distinct.0 in
        let still : AreDue next ids = all_weaker _ _ ids (λ other both. (stays_due later made kept other (turned other made.id (subst (λ (q : List ℕ). bytes_eq other q ≡ false) (sym id_is) both.0)) both.1.0, both.1.1)) (all_both _ _ ids apart due.1) in
        let have : AllHave (next ++ wraps others) others = rest (log ++ keep (report made) ∷ []) next others (tails whole) distinct.1 still in
        let here : Has later made.id made.row (next ++ wraps others) = has_all later made.id made.row next (wraps others) (reports later made kept own here_due) (plain_reports made.id others) (no_accepts made.id others) in
        let row : next ++ wraps others ≡ kept ++ wraps (made ∷ others) = append_assoc kept (report made ∷ []) (wraps others) in
        subst (λ (first : KeptReport). AllHave (kept ++ wraps (first ∷ others)) (first ∷ others)) one_is (subst (λ (k : List Kept). AllHave k (made ∷ others)) row ((here, accepted), have))

    have_over : (made : KeptReport) (over : Bool) → made.id ≡ id → is_own later made.digest ≡ true → (all : List KeptReport) → rest_by basis log ids over made ≡ wraps all → AllHave (kept ++ wraps all) all
    have_over made true id_is own all whole = rest log kept all whole distinct.1 due.1
    have_over made false id_is own all whole = have_one made id_is own all whole

    have_with : (o : Option KeptReport) → IfSome o (λ made. (made.id ≡ id) × (is_own later made.digest ≡ true)) → (all : List KeptReport)
        → option_map_or (λ made. rest_by basis log ids (is_passed_over basis log made) made) o (to_append basis log ids) ≡ wraps all → AllHave (kept ++ wraps all) all
    have_with None of all whole = rest log kept all whole distinct.1 due.1
    have_with (Some made) (id_is, own) all whole = have_over made (is_passed_over basis log made) id_is own all whole

  all_have : (ids : List (List ℕ)) → Appends ids
  all_have [] log kept [] is distinct due = tt
  all_have [] log kept (one ∷ made) is distinct due = cc
  all_have (id ∷ ids) log kept all is distinct due =
      have_with id ids (all_have ids) log kept distinct due (report_of basis log id) (reported_by basis.digest later.digest (row_in basis log id) id same) all is

-- ---- what is to be kept is due by the journal, and each crash once

filtered : {X : Type 0} (p : X → Bool) (Q : X → Type 0) (xs : List X) → AllByRecursion Q xs → AllByRecursion (λ x. (p x ≡ true) × Q x) (filter p xs)
filtered p Q [] all = tt
filtered p Q (x ∷ xs) all =
    elim (p x) as (λ b. p x ≡ b → AllByRecursion (λ y. (p y ≡ true) × Q y) (if b then x ∷ filter p xs else filter p xs)) [
      | true ↦ λ is. ((is, all.0), filtered p Q xs all.1)
      | false ↦ λ is. filtered p Q xs all.1
    ] refl

among : (xs : List (List ℕ)) → AllByRecursion (λ x. is_among xs x ≡ true) xs
among [] = tt
among (x ∷ xs) = (ap (λ b. b || is_among xs x) (itself x), all_weaker _ _ xs (λ y is. or_second (bytes_eq x y) (is_among xs y) is) (among xs))

fewer : (p : List ℕ → Bool) (xs : List (List ℕ)) (x : List ℕ) → is_among xs x ≡ false → is_among (filter p xs) x ≡ false
fewer p [] x none = refl
fewer p (y ∷ xs) x none =
    elim (p y) as (λ b. is_among (if b then y ∷ filter p xs else filter p xs) x ≡ false) [
      | true ↦ or_no (bytes_eq y x) (is_among (filter p xs) x) (or_no_left (bytes_eq y x) (is_among xs x) none) (fewer p xs x (or_no_right (bytes_eq y x) (is_among xs x) none))
      | false ↦ fewer p xs x (or_no_right (bytes_eq y x) (is_among xs x) none)
    ] where
      or_no : (a b : Bool) → a ≡ false → b ≡ false → (a || b) ≡ false
      or_no true b left right = left
      or_no false b left right = right

distinct : (p : List ℕ → Bool) (xs : List (List ℕ)) → AreDistinct xs → AreDistinct (filter p xs)
distinct p [] apart = tt
distinct p (x ∷ xs) apart =
    elim (p x) as (λ b. AreDistinct (if b then x ∷ filter p xs else filter p xs)) [
      | true ↦ (fewer p xs x apart.0, distinct p xs apart.1)
      | false ↦ distinct p xs apart.1
    ]

module _ (basis : Basis) (log : List Change) (legal : AreLegal (events basis log)) where
  abbrev ev : List Event
  ev = events basis log

  distinct_kept : (with : Bool) → AreDistinct (if with then filter (is_to_keep ev) (held_ids ev) else [])
  distinct_kept true = distinct (is_to_keep ev) (held_ids ev) (distinct (λ id. not (was_withdrawn ev id)) (accepted_ids ev) (distinct_ids ev legal))
  distinct_kept false = tt

  abbrev IsDueThere : List ℕ → Type 0
  IsDueThere id = (is_due (events basis (log_of (kept_of log))) id ≡ true) × (was_accepted ev id ≡ true)

  due_one : (id : List ℕ) → (is_to_keep ev id ≡ true) × ((not (was_withdrawn ev id) ≡ true) × (was_accepted ev id ≡ true)) → IsDueThere id
  due_one id (wanted, (held, accepted)) =
      let first = and_parts (has_report ev id) (not (is_due ev id) && not (is_kept ev id)) wanted in
      let second = and_parts (not (is_due ev id)) (not (is_kept ev id)) first.1 in
      (due_there basis log id legal (not_true (was_withdrawn ev id) held) first.0 (not_true (is_kept ev id) second.1), accepted)

  due_kept : (with : Bool) → AllByRecursion IsDueThere (if with then filter (is_to_keep ev) (held_ids ev) else [])
  due_kept true = all_weaker _ _ (filter (is_to_keep ev) (held_ids ev)) due_one
      (filtered (is_to_keep ev) (λ id. (not (was_withdrawn ev id) ≡ true) × (was_accepted ev id ≡ true)) (held_ids ev) (filtered (λ id. not (was_withdrawn ev id)) (λ id. was_accepted ev id ≡ true) (accepted_ids ev) (among (accepted_ids ev))))
  due_kept false = tt

-- a life with the same digest tells the same of a journal
events_alike : (basis later : Basis) → later.digest ≡ basis.digest → (kept : List Kept) → events basis (log_of kept) ≡ events later (log_of kept)
events_alike basis later same [] = refl
events_alike basis later same (accept crash ∷ kept) = ap (λ (es : List Event). E.Accepted crash.id ∷ es) (events_alike basis later same kept)
events_alike basis later same (ask id ∷ kept) = ap (λ (es : List Event). E.Asked id ∷ es) (events_alike basis later same kept)
events_alike basis later same (withdraw id ∷ kept) = ap (λ (es : List Event). E.Withdrawn id ∷ es) (events_alike basis later same kept)
events_alike basis later same (report made ∷ kept) =
    ap (λ (own : Option (List ℕ)). E.Reported made.id (option_map_or (λ d. bytes_eq d made.digest) own false) ∷ events basis (log_of kept)) (sym same)
    ∙ ap (λ (es : List Event). E.Reported made.id (is_own later made.digest) ∷ es) (events_alike basis later same kept)

-- ---- no crash is accepted again

back_part : {X : Type 0} (P : X → Type 0) (xs ys : List X) → AllByRecursion P (xs ++ ys) → AllByRecursion P ys
back_part P [] ys all = all
back_part P (x ∷ xs) ys all = back_part P xs ys all.1

apart_behind : (id : List ℕ) (xs ys : List Accepted) → IsApart (xs ++ ys) → list_any (has_id id) xs ≡ true → AllByRecursion (λ other. bytes_eq other.id id ≡ false) ys
apart_behind id [] ys apart is = absurd (true_is_not_false (sym is))
apart_behind id (x ∷ xs) ys apart is =
    elim (bytes_eq x.id id) as (λ b. bytes_eq x.id id ≡ b → (b || list_any (has_id id) xs) ≡ true → AllByRecursion (λ other. bytes_eq other.id id ≡ false) ys) [
      | true ↦ λ same _. subst (λ (i : List ℕ). AllByRecursion (λ other. bytes_eq other.id i ≡ false) ys) (same_text x.id id same) (back_part _ xs ys apart.0)
      | false ↦ λ _ later. apart_behind id xs ys apart.1 later
    ] refl is

unmapped : {X Y : Type 0} (P : Y → Type 0) (f : X → Y) (xs : List X) → AllByRecursion P (map f xs) → AllByRecursion (λ x. P (f x)) xs
unmapped P f [] all = tt
unmapped P f (x ∷ xs) all = (all.0, unmapped P f xs all.1)

none_behind : (id : List ℕ) (kept more : List Kept) → IsApart (accepted_of (log_of (kept ++ more))) → list_any (has_id id) (accepted_of (log_of kept)) ≡ true
    → AllByRecursion (λ change. IfSome (accepted_in (keep change)) (λ other. bytes_eq other.id id ≡ false)) more
none_behind id kept more apart is =
    let row : accepted_of (log_of (kept ++ more)) ≡ accepted_of (log_of kept) ++ accepted_of (log_of more) = ap accepted_of (map-append keep kept more) ∙ filter_map-append accepted_in (log_of kept) (log_of more) in
    unmapped (λ change. IfSome (accepted_in change) (λ other. bytes_eq other.id id ≡ false)) keep more
    (filter_map-all accepted_in (λ other. bytes_eq other.id id ≡ false) (log_of more) (apart_behind id (accepted_of (log_of kept)) (accepted_of (log_of more)) (subst IsApart row apart) is))

pub accepted_kept : (log : List Change) → accepted_of (log_of (kept_of log)) ≡ accepted_of log
accepted_kept [] = refl
accepted_kept (keep (accept crash) ∷ log) = ap (λ (cs : List Accepted). crash ∷ cs) (accepted_kept log)
accepted_kept (keep (ask id) ∷ log) = accepted_kept log
accepted_kept (keep (withdraw id) ∷ log) = accepted_kept log
accepted_kept (keep (report made) ∷ log) = accepted_kept log
accepted_kept (done id ∷ log) = accepted_kept log
accepted_kept (stop ∷ log) = accepted_kept log

legal_back : (xs ys : List Event) → IsLegalBack (xs ++ ys) → IsLegalBack ys
legal_back [] ys legal = legal
legal_back (x ∷ xs) ys legal = legal_back xs ys legal.1

legal_front : (basis : Basis) (log piece : List Change) → AreLegal (events basis (log ++ piece)) → AreLegal (events basis log)
legal_front basis log piece legal =
    legal_back (reverse (events basis piece)) (reverse (events basis log))
    (subst IsLegalBack (ap reverse (map-append (event_of basis) log piece) ∙ reverse-append (events basis log) (events basis piece)) legal)

-- ---- the law

module _ (basis : Basis) (log : List Change) (made : List KeptReport) (is : to_append basis log (ids_to_keep basis log) ≡ wraps made) (legal : AreLegal (events basis log)) where
  abbrev all : List Kept
  all = kept_of log ++ wraps made

  in_next : (next : Life) → (BeginsWith all next.opening × ((found : List ℕ) × Lives found next)) → next.basis.digest ≡ basis.digest → OpensWithReports all made next
  in_next next ((more, behind), (found, lives)) same =
      let due = subst (λ (es : List Event). AllByRecursion (λ id. (is_due es id ≡ true) × (was_accepted (events basis log) id ≡ true)) (ids_to_keep basis log)) (events_alike basis next.basis same (kept_of log)) (due_kept basis log legal (is_some basis.digest)) in
      let have = all_have basis next.basis same (events basis log) (ids_to_keep basis log) log (kept_of log) made is (distinct_kept basis log legal (is_some basis.digest)) due in
      record { more = more; behind = behind; has = all_weaker _ _ made one have } where
        apart : IsApart (accepted_of (log_of (all ++ more)))
        apart = subst (λ (k : List Kept). IsApart (accepted_of (log_of k))) behind (accepted_apart next.basis (log_of next.opening) lives.legal.events_legal)

        known : (id : List ℕ) → was_accepted (events basis log) id ≡ true → list_any (has_id id) (accepted_of (log_of all)) ≡ true
        known id accepted =
            ap (list_any (has_id id)) (ap accepted_of (map-append keep (kept_of log) (wraps made)) ∙ filter_map-append accepted_in (log_of (kept_of log)) (log_of (wraps made)))
            ∙ (list_any-append (has_id id) (accepted_of (log_of (kept_of log))) (accepted_of (log_of (wraps made)))
            ∙ ap (λ b. b || list_any (has_id id) (accepted_of (log_of (wraps made)))) (ap (list_any (has_id id)) (accepted_kept log) ∙ (sym (was_accepted-is basis log id) ∙ accepted)))

        one : (report_ : KeptReport) → Has next.basis report_.id report_.row all × (was_accepted (events basis log) report_.id ≡ true) → list_any (is_of report_.id) more ≡ false → HasReport next.basis next.opening report_
        one report_ (has, accepted) other =
            subst (Has next.basis report_.id report_.row) (sym behind) (has_all next.basis report_.id report_.row all more has other (none_behind report_.id all more apart (known report_.id accepted)))

stay_reports : (found : List ℕ) (life : Life) (later : List Life) → AllLive found (life ∷ later) → (count : ℕ) (before after : State) → StepKeep life.basis before (R.Kept count) after → IsLegalState life.basis after → IsFrontOf after.log (ended life).log
    → StayReports life.basis later count after
stay_reports found life later live count before after (inl (some, (said, same))) legal front = absurd (not_refused said) where
  not_refused : R.Kept count ≡ R.Refused F.StoreFault → ⊥
  not_refused said = cc
stay_reports found life later live count before after (inr keeps) legal front =
    let basis = life.basis in
    let found_ = are_reports basis keeps.log (ids_to_keep basis keeps.log) in
    let made = found_.0 in
    let log_is : after.log ≡ keeps.log ++ log_of (wraps made) = ap (λ (s : State). s.log) keeps.keeps.1 ∙ ap (λ (k : List Kept). keeps.log ++ log_of k) found_.1 in
    let kept_is : kept_of after.log ≡ kept_of keeps.log ++ wraps made =
    ap kept_of log_is ∙ (kept_more keeps.log (log_of (wraps made)) ∙ ap (λ (k : List Kept). kept_of keeps.log ++ k) (kept_all (wraps made))) in
    let events_legal = legal_front basis keeps.log (log_of (wraps made)) (subst (λ (l : List Change). AreLegal (events basis l)) log_is legal.log.events_legal) in
    record {
      log = keeps.log;
      reports = made;
      after_log = log_is;
      count_is = keeps.keeps.0 ∙ (ap length found_.1 ∙ length-map made report);
      there = subst (λ (k : List Kept). AllByRecursion (λ next. next.basis.digest ≡ basis.digest → OpensWithReports k made next) later) (sym kept_is)
          (all_weaker _ _ later (in_next basis keeps.log made found_.1 events_legal)
          (all_both _ _ later (subst (λ (k : List Kept). AllByRecursion (λ next. BeginsWith k next.opening) later) kept_is (kept_later found life later live after.log front)) (later_lives life.image later live.1)));
    }

pub kept_reports_stay : KeptReportsStay
kept_reports_stay found life later live =
    at_each life.basis live.0.is_told _ (ended life) (opened life) life.transitions (starts_legal found life live.0) live.0.goes refl
    (λ old transition legal does legal' front count is.
    stay_reports found life later live count old transition.after (subst (λ (action : Action). Does life.basis old action transition.after) is does) legal' front)
