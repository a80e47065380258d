-- What is counted in the tables is what the log's lists count.
use Rattle.std.proofs.Common.{◌≡◌, ℕ, zero, suc, ◌+◌, ◌-◌, ◌<◌, ◌≤◌, Bool, true, false, not, ◌&&◌, ◌||◌, List, [], ◌∷◌, ◌++◌, length, get_or, set, filter, map, eqb, Option, Some, None, cond, sym, ap, subst, ◌∙◌, arith, refl}
use Rattle.std.specs.Prelude.{IsTrue, bytes_eq, count_by, filter_map, remove}
use Rattle.std.specs.Option.{option_map, option_map_or}
use Rattle.std.specs.List.{AllByRecursion, cons_option, enumerate_from}
use Rattle.std.proofs.Math.Bool.{or-false}
use Rattle.std.proofs.lemmas.Bool.{eqb-true}
use Rattle.std.proofs.lemmas.List.{append-nil, get_or-map, length-map, length_push}
use Rattle.std.proofs.lemmas.List.Edits.{length-remove}
use Rattle.std.proofs.lemmas.List.Elements.{filter_map-append}
use Rattle.std.proofs.lemmas.List.Filters.{length-filter_both}
use Rattle.std.proofs.lemmas.List.Folds.{list_any-append}
use Rattle.std.proofs.lemmas.List.Sums.{length-filter, sum_by-cons, sum_by-set, sum_by_push}
use Rattle.soc_base.proofs.Folk.{or_true, none_is_not_some, or_no_left, or_no_right, some-injective}
use Rattle.soc_ledger.specs.declared.crash.Standing.{Standing}
use Rattle.soc_ledger.specs.declared.due.Due.{Due}
use Rattle.soc_ledger.specs.declared.event.Event.{Event}
use Rattle.soc_ledger.specs.declared.event.Event.TheVariants.{Accepted, Asked, Withdrawn, Reported, Done, Stopped}
use Rattle.soc_ledger.specs.Due.{due_since, is_since, urged, urged_by, urged_in, waiting}
use Rattle.soc_ledger.specs.Events.{accepted_ids, accepted_in, held_ids, is_among, was_accepted, was_withdrawn, withdrawal_count, withdrawn_ids, withdrawn_in}
use Rattle.soc_ledger.specs.Legal.{IsLegal, IsLegalNext}
use Rattle.soc_ledger.specs.Reported.{has_report, report_count}
use Rattle.soc_ledger.specs.State.{standing_of}
use Rattle.soc_ledger.specs.inner.Tables.{Tells, shows_report}
use Rattle.soc_ledger.proofs.Lists.{AreDistinct, among_place, filter-filter, itself, map-one, or_no, same_text, true_is_not_false, turned}
use Rattle.soc_ledger.proofs.Logs.{distinct_ids, legal_induction, not_true, unknown_crash}
use Rattle.soc_ledger.proofs.More.{accepted_ids-more}

count-map : {A B : Type 0} (g : A → B) (f : B → Bool) (xs : List A) → count_by f (map g xs) ≡ count_by (λ x. f (g x)) xs
count-map g f [] = refl
count-map g f (x ∷ xs) =
    sum_by-cons (λ y. cond (f y) 1 0) (g x) (map g xs) ∙ (ap (λ n. cond (f (g x)) 1 0 + n) (count-map g f xs) ∙ sym (sum_by-cons (λ y. cond (f (g y)) 1 0) x xs))

count-agree : {A : Type 0} (f g : A → Bool) → ((x : A) → f x ≡ g x) → (xs : List A) → count_by f xs ≡ count_by g xs
count-agree f g same [] = refl
count-agree f g same (x ∷ xs) =
    sum_by-cons (λ y. cond (f y) 1 0) x xs
    ∙ (ap (λ b. cond b 1 0 + count_by f xs) (same x) ∙ (ap (λ n. cond (g x) 1 0 + n) (count-agree f g same xs) ∙ sym (sum_by-cons (λ y. cond (g y) 1 0) x xs)))

-- ---- withdrawals

was_withdrawn-more : (log : List Event) (event : Event) (id : List ℕ) → was_withdrawn (log ++ event ∷ []) id ≡ (was_withdrawn log id || is_among (filter_map withdrawn_in (event ∷ [])) id)
was_withdrawn-more log event id =
    ap (λ ids. is_among ids id) (filter_map-append withdrawn_in log (event ∷ []))
    ∙ list_any-append (λ other. bytes_eq other id) (withdrawn_ids log) (filter_map withdrawn_in (event ∷ []))

held_parts : (a w : Bool) → IsTrue (a && not w) → (a ≡ true) × (w ≡ false)
held_parts true true held = absurd (true_is_not_false (sym held))
held_parts true false held = (refl, refl)
held_parts false w held = absurd (true_is_not_false (sym held))

abbrev Counts : List Event → Type 0
Counts log = length (withdrawn_ids log) ≡ count_by (was_withdrawn log) (accepted_ids log)

-- of the accepted crashes as many are withdrawn as there are withdrawals
pub withdrawn-counts : (log : List Event) → IsLegal log → Counts log
withdrawn-counts log legal = legal_induction Counts refl more log legal
  where
    nothing : (log : List Event) (event : Event) → accepted_in event ≡ None → withdrawn_in event ≡ None → Counts log → Counts (log ++ event ∷ [])
    nothing log event old none counts =
        let same : withdrawn_ids (log ++ event ∷ []) ≡ withdrawn_ids log = filter_map-append withdrawn_in log (event ∷ []) ∙ (ap (λ o. withdrawn_ids log ++ cons_option o []) none ∙ append-nil (withdrawn_ids log)) in
        let ids : accepted_ids (log ++ event ∷ []) ≡ accepted_ids log = accepted_ids-more log event ∙ (ap (λ o. accepted_ids log ++ cons_option o []) old ∙ append-nil (accepted_ids log)) in
        ap length same ∙ (counts ∙ (sym (count-agree (was_withdrawn (log ++ event ∷ [])) (was_withdrawn log) (λ q. ap (λ l. is_among l q) same) (accepted_ids log)) ∙ ap (count_by (was_withdrawn (log ++ event ∷ []))) (sym ids)))

    new : (log : List Event) (id : List ℕ) → IsLegal log → was_accepted log id ≡ false → Counts log → Counts (log ++ Accepted id ∷ [])
    new log id legal none counts =
        let same : withdrawn_ids (log ++ Accepted id ∷ []) ≡ withdrawn_ids log = filter_map-append withdrawn_in log (Accepted id ∷ []) ∙ append-nil (withdrawn_ids log) in
        let clean : was_withdrawn log id ≡ false = ap (λ s. s.withdrawn) (unknown_crash log legal id none) in
        let pushed : count_by (was_withdrawn log) (accepted_ids log ++ id ∷ []) ≡ count_by (was_withdrawn log) (accepted_ids log) + cond {A = ℕ} (was_withdrawn log id) 1 0 = sum_by_push (λ q. cond (was_withdrawn log q) 1 0) (accepted_ids log) id in
        let nought : cond {A = ℕ} (was_withdrawn log id) 1 0 ≡ 0 = ap (λ b. cond b 1 0) clean in
        let stays : count_by (was_withdrawn log) (accepted_ids log) ≡ count_by (was_withdrawn log) (accepted_ids log ++ id ∷ []) = omega arith in
        ap length same
        ∙ (counts ∙ (stays ∙ (sym (count-agree (was_withdrawn (log ++ Accepted id ∷ [])) (was_withdrawn log) (λ q. ap (λ l. is_among l q) same) (accepted_ids log ++ id ∷ []))
        ∙ ap (count_by (was_withdrawn (log ++ Accepted id ∷ []))) (sym (accepted_ids-more log (Accepted id))))))

    gone : (log : List Event) (id : List ℕ) → IsLegal log → (was_accepted log id ≡ true) × (was_withdrawn log id ≡ false) → Counts log → Counts (log ++ Withdrawn id ∷ [])
    gone log id legal held counts =
        let log' : List Event = log ++ Withdrawn id ∷ [] in
        let ids : List (List ℕ) = accepted_ids log in
        let place = among_place ids id held.0 in
        let others : (q : List ℕ) → bytes_eq q id ≡ false → was_withdrawn log' q ≡ was_withdrawn log q =
        λ q other. was_withdrawn-more log (Withdrawn id) q ∙ (ap (λ b. was_withdrawn log q || (b || false)) (turned q id other) ∙ or-false (was_withdrawn log q)) in
        let here : was_withdrawn log' id ≡ true = was_withdrawn-more log (Withdrawn id) id ∙ (ap (λ b. was_withdrawn log id || (b || false)) (itself id) ∙ or_true (was_withdrawn log id)) in
        let marks : map (was_withdrawn log') ids ≡ set (map (was_withdrawn log) ids) place.0 (was_withdrawn log' id) = map-one (was_withdrawn log') (was_withdrawn log) id others ids place.0 (distinct_ids log legal) place.1 place.2 in
        let lt : place.0 < length (map (was_withdrawn log) ids) = subst (λ n. place.0 < n) (sym (length-map ids (was_withdrawn log))) place.1 in
        let was : get_or (map (was_withdrawn log) ids) place.0 false ≡ false = get_or-map (was_withdrawn log) ids place.0 [] false place.1 ∙ (ap (was_withdrawn log) place.2 ∙ held.1) in
        let moved : count_by (λ b. b) (set (map (was_withdrawn log) ids) place.0 (was_withdrawn log' id)) + cond {A = ℕ} (get_or (map (was_withdrawn log) ids) place.0 false) 1 0 ≡ count_by (λ b. b) (map (was_withdrawn log) ids) + cond {A = ℕ} (was_withdrawn log' id) 1 0 =
        sum_by-set (λ b. cond b 1 0) (map (was_withdrawn log) ids) place.0 (was_withdrawn log' id) false lt in
        let less : cond {A = ℕ} (get_or (map (was_withdrawn log) ids) place.0 false) 1 0 ≡ 0 = ap (λ b. cond b 1 0) was in
        let more : cond {A = ℕ} (was_withdrawn log' id) 1 0 ≡ 1 = ap (λ b. cond b 1 0) here in
        let before : count_by (λ b. b) (map (was_withdrawn log) ids) ≡ count_by (was_withdrawn log) ids = count-map (was_withdrawn log) (λ b. b) ids in
        let after : count_by (was_withdrawn log') ids ≡ count_by (λ b. b) (set (map (was_withdrawn log) ids) place.0 (was_withdrawn log' id)) = sym (count-map (was_withdrawn log') (λ b. b) ids) ∙ ap (count_by (λ b. b)) marks in
        let longer : length (withdrawn_ids log') ≡ length (withdrawn_ids log) + 1 = ap length (filter_map-append withdrawn_in log (Withdrawn id ∷ [])) ∙ length_push (withdrawn_ids log) id in
        let total : length (withdrawn_ids log') ≡ count_by (was_withdrawn log') ids = omega (arith, counts) in
        total ∙ ap (count_by (was_withdrawn log')) (sym (accepted_ids-more log (Withdrawn id) ∙ append-nil ids))

    more : (log : List Event) (event : Event) → IsLegal log → IsLegalNext log event → Counts log → Counts (log ++ event ∷ [])
    more log (Accepted id) legal next counts = new log id legal (not_true (was_accepted log id) next) counts
    more log (Asked id) legal next counts = nothing log (Asked id) refl refl counts
    more log (Withdrawn id) legal next counts = gone log id legal (held_parts (was_accepted log id) (was_withdrawn log id) next) counts
    more log (Reported id own) legal next counts = nothing log (Reported id own) refl refl counts
    more log (Done id) legal next counts = nothing log (Done id) refl refl counts
    more log Stopped legal next counts = nothing log Stopped refl refl counts

module _ (log : List Event) (ids : List (List ℕ)) (standings : List Standing) (due : List Due) (tells : Tells log ids standings due) where
  counted : (f : Standing → Bool) → count_by f standings ≡ count_by (λ id. f (standing_of log id)) (accepted_ids log)
  counted f = ap (count_by f) tells.crashes ∙ (count-map (standing_of log) f ids ∙ ap (count_by (λ id. f (standing_of log id))) tells.numbers)

  pub withdrawn_count : count_by (λ s. s.withdrawn) standings ≡ withdrawal_count log
  withdrawn_count = counted (λ s. s.withdrawn) ∙ sym (withdrawn-counts log tells.legal)

  pub held_count : length ids - count_by (λ s. s.withdrawn) standings ≡ length (held_ids log)
  held_count =
      let both = length-filter_both (was_withdrawn log) (λ id. not (was_withdrawn log id)) (λ id. refl) (accepted_ids log) in
      let some = length-filter (was_withdrawn log) (accepted_ids log) in
      let count = counted (λ s. s.withdrawn) in
      let long : length ids ≡ length (accepted_ids log) = ap length tells.numbers in
      omega (arith, both, some, count, long)

  pub reported_count : count_by shows_report standings ≡ report_count log
  reported_count =
      counted shows_report
      ∙ (sym (length-filter (λ id. not (was_withdrawn log id) && has_report log id) (accepted_ids log))
      ∙ ap length (sym (filter-filter (λ id. not (was_withdrawn log id)) (has_report log) (accepted_ids log))))

-- ---- each crash is due once

-- as many ids as differ and stand in a list there are in the list
among_left : (ys : List (List ℕ)) (i : ℕ) (z : List ℕ) → i < length ys → bytes_eq (get_or ys i []) z ≡ false → is_among ys z ≡ true → is_among (remove ys i) z ≡ true
among_left [] i z lt other there = absurd (omega arith)
among_left (y ∷ ys) zero z lt other there = ap (λ b. b || is_among ys z) (sym other) ∙ there
among_left (y ∷ ys) (suc i) z lt other there =
    elim (bytes_eq y z) as (λ b. (b || is_among ys z) ≡ true → (b || is_among (remove ys i) z) ≡ true) [ true ↦ λ _. refl | false ↦ λ rest. among_left ys i z (omega arith) other rest ] there

abbrev AllAmong : List (List ℕ) → List (List ℕ) → Type 0
AllAmong ys xs = AllByRecursion (λ x. is_among ys x ≡ true) xs

all_left : (ys : List (List ℕ)) (i : ℕ) (x : List ℕ) (xs : List (List ℕ)) → i < length ys → get_or ys i [] ≡ x → is_among xs x ≡ false → AllAmong ys xs → AllAmong (remove ys i) xs
all_left ys i x [] lt is none all = tt
all_left ys i x (z ∷ xs) lt is none all = (
  among_left ys i z lt (ap (λ u. bytes_eq u z) is ∙ turned z x (or_no_left (bytes_eq z x) (is_among xs x) none)) all.0,
  all_left ys i x xs lt is (or_no_right (bytes_eq z x) (is_among xs x) none) all.1,
)

pub distinct_fit : (xs ys : List (List ℕ)) → AreDistinct xs → AllAmong ys xs → length xs ≤ length ys
distinct_fit [] ys distinct all = omega arith
distinct_fit (x ∷ xs) ys distinct all =
    let place = among_place ys x all.0 in
    let rest = distinct_fit xs (remove ys place.0) distinct.1 (all_left ys place.0 x xs place.1 place.2 distinct.0 all.1) in
    let fewer = length-remove ys place.0 place.1 in
    omega arith

abbrev From : ℕ → List (ℕ × List ℕ) → Type 0
From n places = AllByRecursion (λ here. n ≤ here.0) places

abbrev Rise : List (ℕ × List ℕ) → Type 0
Rise [] = Unit {0}
Rise (here ∷ places) = From (here.0 + 1) places × Rise places

from_less : (m n : ℕ) (places : List (ℕ × List ℕ)) → m ≤ n → From n places → From m places
from_less m n [] le all = tt
from_less m n (here ∷ places) le all = let first : n ≤ here.0 = all.0 in (omega arith, from_less m n places le all.1)

urged_from : (n : ℕ) (log : List Event) → From n (filter_map urged_by (enumerate_from n log)) × Rise (filter_map urged_by (enumerate_from n log))
urged_from n [] = (tt, tt)
urged_from n (x ∷ log) =
    let rest = urged_from (n + 1) log in
    elim (urged_in x) as (λ o. From n (cons_option (option_map (λ id. (n, id)) o) (filter_map urged_by (enumerate_from (n + 1) log)))
    × Rise (cons_option (option_map (λ id. (n, id)) o) (filter_map urged_by (enumerate_from (n + 1) log)))) [
      | None ↦ (from_less n (n + 1) (filter_map urged_by (enumerate_from (n + 1) log)) (omega arith) rest.0, rest.1)
      | Some id ↦ ((omega arith, from_less n (n + 1) (filter_map urged_by (enumerate_from (n + 1) log)) (omega arith) rest.0), (rest.0, rest.1))
    ]

from_kept : (n : ℕ) (p : ℕ × List ℕ → Bool) (places : List (ℕ × List ℕ)) → From n places → From n (filter p places)
from_kept n p [] all = tt
from_kept n p (here ∷ places) all =
    elim (p here) as (λ b. From n (cond b (here ∷ filter p places) (filter p places))) [ true ↦ (all.0, from_kept n p places all.1) | false ↦ from_kept n p places all.1 ]

rise_kept : (p : ℕ × List ℕ → Bool) (places : List (ℕ × List ℕ)) → Rise places → Rise (filter p places)
rise_kept p [] rise = tt
rise_kept p (here ∷ places) rise =
    elim (p here) as (λ b. Rise (cond b (here ∷ filter p places) (filter p places))) [
      | true ↦ (from_kept (here.0 + 1) p places rise.0, rise_kept p places rise.1)
      | false ↦ rise_kept p places rise.1
    ]

abbrev AreSince : List Event → List (ℕ × List ℕ) → Type 0
AreSince log places = AllByRecursion (λ here. due_since log here.1 ≡ Some here.0) places

since_place : (place : ℕ) (since : Option ℕ) → option_map_or (λ p. eqb p place) since false ≡ true → since ≡ Some place
since_place place None is = absurd (true_is_not_false (sym is))
since_place place (Some p) is = ap (λ u. Some u) (eqb-true p place is)

are_since : (log : List Event) (places : List (ℕ × List ℕ)) → AreSince log (filter (is_since log) places)
are_since log [] = tt
are_since log (here ∷ places) =
    elim (is_since log here) as (λ b. is_since log here ≡ b → AreSince log (cond b (here ∷ filter (is_since log) places) (filter (is_since log) places))) [
      | true ↦ λ is. (since_place here.0 (due_since log here.1) is, are_since log places)
      | false ↦ λ is. are_since log places
    ] refl

abbrev ids_at : List (ℕ × List ℕ) → List (List ℕ)
ids_at places = map (λ here. here.1) places

apart : (log : List Event) (n : ℕ) (id : List ℕ) (places : List (ℕ × List ℕ)) → due_since log id ≡ Some n → From (n + 1) places → AreSince log places → is_among (ids_at places) id ≡ false
apart log n id [] since from all = refl
apart log n id (here ∷ places) since from all =
    or_no (bytes_eq here.1 id) (is_among (ids_at places) id)
    (elim (bytes_eq here.1 id) as (λ b. bytes_eq here.1 id ≡ b → b ≡ false) [
      | true ↦ λ is.
          let same : here.0 ≡ n = some-injective (sym all.0 ∙ (ap (due_since log) (same_text here.1 id is) ∙ since)) in
          let later : n + 1 ≤ here.0 = from.0 in
          absurd (omega arith)
      | false ↦ λ _. refl
    ] refl)
    (apart log n id places since from.1 all.1)

each_once : (log : List Event) (places : List (ℕ × List ℕ)) → Rise places → AreSince log places → AreDistinct (ids_at places)
each_once log [] rise all = tt
each_once log (here ∷ places) rise all = (apart log here.0 here.1 places all.0 rise.0 all.1, each_once log places rise.1 all.1)

due_among : (log : List Event) → IsLegal log → (places : List (ℕ × List ℕ)) → AreSince log places → AllAmong (accepted_ids log) (ids_at places)
due_among log legal [] all = tt
due_among log legal (here ∷ places) all = (
  elim (was_accepted log here.1) as (λ b. was_accepted log here.1 ≡ b → b ≡ true) [
    | true ↦ λ _. refl
    | false ↦ λ none. absurd (none_is_not_some (sym (ap (λ s. s.due_since) (unknown_crash log legal here.1 none)) ∙ all.0))
  ] refl,
  due_among log legal places all.1,
)

-- no more crashes are due than were accepted
pub due_few : (log : List Event) → IsLegal log → length (waiting log) ≤ length (accepted_ids log)
due_few log legal =
    let all : AreSince log (waiting log) = are_since log (urged log) in
    let fit = distinct_fit (ids_at (waiting log)) (accepted_ids log) (each_once log (waiting log) (rise_kept (is_since log) (urged log) (urged_from 0 log).1) all) (due_among log legal (waiting log) all) in
    let long : length (ids_at (waiting log)) ≡ length (waiting log) = length-map (waiting log) (λ here. here.1) in
    omega arith
