-- The crashes whose reports are left to be kept, number by number.
use Rattle.std.proofs.Common.{◌≡◌, ℕ, zero, suc, ◌+◌, ◌<◌, ◌≤◌, Bool, true, false, not, ◌&&◌, ◌||◌, cond, List, [], ◌∷◌, ◌++◌, length, drop, Some, is_some, refl, sym, ◌∙◌, ap, subst, arith}
use Rattle.soc_book.proofs.Words.{bytes_eq, slice_get, filter, AllByRecursion, append-nil, drop_all, filter_map-append, or_true, none_is_not_some, some-injective, Standing, Event, accepted_ids, held_ids, is_among, is_held, was_withdrawn, AreDistinct, filter-filter, filter-on, itself, all-weaker, is_to_keep, held_plain, none_passes, is_wanted, rest_ids}
use Rattle.soc_ledger.specs.declared.event.Event.TheVariants as E
use Rattle.soc_ledger.specs.Events.{accepted_in}
use Rattle.soc_ledger.proofs.Whole.{standing_others}
use Rattle.soc_book.proofs.Filing.{all_got}

-- ---- from one number to the next

drop_got : {A : Type 0} (xs : List A) (n : ℕ) (x : A) → slice_get xs n ≡ Some x → drop n xs ≡ x ∷ drop (n + 1) xs
drop_got [] n x at = absurd (none_is_not_some at)
drop_got (y ∷ xs) zero x at = ap (λ z. z ∷ xs) (some-injective at)
drop_got (y ∷ xs) (suc n) x at =
    let next : suc (n + 1) ≡ suc n + 1 = omega arith in
    drop_got xs n x at ∙ ap (λ k. x ∷ drop k (y ∷ xs)) next

module _ (log : List Event) (number : ℕ) (id : List ℕ) (at : slice_get (accepted_ids log) number ≡ Some id) where
  rest_here : rest_ids log number ≡ cond (is_wanted log id) (id ∷ rest_ids log (number + 1)) (rest_ids log (number + 1))
  rest_here = ap (λ xs. filter (is_wanted log) xs) (drop_got (accepted_ids log) number id at)

  pub rest_skips : is_wanted log id ≡ false → rest_ids log number ≡ rest_ids log (number + 1)
  rest_skips is = rest_here ∙ ap (λ b. cond b (id ∷ rest_ids log (number + 1)) (rest_ids log (number + 1))) is

  pub rest_takes : is_wanted log id ≡ true → rest_ids log number ≡ id ∷ rest_ids log (number + 1)
  rest_takes is = rest_here ∙ ap (λ b. cond b (id ∷ rest_ids log (number + 1)) (rest_ids log (number + 1))) is

pub rest_none : (log : List Event) (number : ℕ) → length (accepted_ids log) ≤ number → rest_ids log number ≡ []
rest_none log number all = ap (λ xs. filter (is_wanted log) xs) (drop_all number (accepted_ids log) all)

-- ---- once a report is kept

behind_differ : (ids : List (List ℕ)) (number : ℕ) (id : List ℕ) → AreDistinct ids → slice_get ids number ≡ Some id → AllByRecursion (λ x. bytes_eq x id ≡ false) (drop (number + 1) ids)
behind_differ [] number id distinct at = absurd (none_is_not_some at)
behind_differ (x ∷ ids) zero id distinct at =
    subst (λ y. AllByRecursion (λ z. bytes_eq z y ≡ false) ids) (some-injective at) (none_passes (λ z. bytes_eq z x) ids distinct.0)
behind_differ (x ∷ ids) (suc number) id distinct at =
    let next : suc (number + 1) ≡ suc number + 1 = omega arith in
    subst (λ k. AllByRecursion (λ z. bytes_eq z id ≡ false) (drop k (x ∷ ids))) next (behind_differ ids number id distinct.1 at)

-- the ids of two numbers differ
pub ids_differ : (ids : List (List ℕ)) (m n : ℕ) (x y : List ℕ) → AreDistinct ids → slice_get ids m ≡ Some x → slice_get ids n ≡ Some y → m < n → bytes_eq y x ≡ false
ids_differ [] m n x y distinct first second less = absurd (none_is_not_some first)
ids_differ (z ∷ ids) m zero x y distinct first second less = absurd (omega (arith, less))
ids_differ (z ∷ ids) zero (suc n) x y distinct first second less =
    subst (λ w. bytes_eq y w ≡ false) (some-injective first) (all_got (λ w. bytes_eq w z ≡ false) ids n y (none_passes (λ w. bytes_eq w z) ids distinct.0) second)
ids_differ (z ∷ ids) (suc m) (suc n) x y distinct first second less = ids_differ ids m n x y distinct.1 first second (omega (arith, less))

abbrev keeps_by : Standing → Bool
keeps_by s = s.has_report && (not (is_some s.due_since) && not s.is_kept)

module _ (log : List Event) (number : ℕ) (id : List ℕ) (at : slice_get (accepted_ids log) number ≡ Some id) (distinct : AreDistinct (accepted_ids log)) where
  abbrev later : List Event
  later = log ++ E.Reported id true ∷ []

  pub wanted_same : (x : List ℕ) → bytes_eq x id ≡ false → is_wanted later x ≡ is_wanted log x
  wanted_same x differs =
      ap (λ b. b && is_to_keep later x) (held_plain log (E.Reported id true) x refl refl)
      ∙ ap (λ s. is_held log x && keeps_by s) (standing_others log (E.Reported id true) id refl x differs)

  accepted_same : accepted_ids later ≡ accepted_ids log
  accepted_same = filter_map-append accepted_in log (E.Reported id true ∷ []) ∙ append-nil (accepted_ids log)

  pub rest_reported : rest_ids later (number + 1) ≡ rest_ids log (number + 1)
  rest_reported =
      ap (λ ids. filter (is_wanted later) (drop (number + 1) ids)) accepted_same
      ∙ filter-on (is_wanted later) (is_wanted log) (drop (number + 1) (accepted_ids log))
      (all-weaker (λ x. bytes_eq x id ≡ false) (λ x. is_wanted later x ≡ is_wanted log x) wanted_same (drop (number + 1) (accepted_ids log)) (behind_differ (accepted_ids log) number id distinct at))

-- ---- all of them

all_among : (ids xs : List (List ℕ)) → ((x : List ℕ) → is_among xs x ≡ true → is_among ids x ≡ true) → AllByRecursion (λ x. is_among ids x ≡ true) xs
all_among ids [] among = tt
all_among ids (x ∷ xs) among =
    (among x (ap (λ b. b || is_among xs x) (itself x)), all_among ids xs (λ y here. among y (ap (λ b. bytes_eq x y || b) here ∙ or_true (bytes_eq x y))))

pub rest_all : (log : List Event) → rest_ids log 0 ≡ filter (is_to_keep log) (held_ids log)
rest_all log =
    sym (filter-filter (λ id. not (was_withdrawn log id)) (is_to_keep log) (accepted_ids log)
    ∙ filter-on (λ id. not (was_withdrawn log id) && is_to_keep log id) (is_wanted log) (accepted_ids log)
    (all-weaker (λ x. is_among (accepted_ids log) x ≡ true) (λ x. (not (was_withdrawn log x) && is_to_keep log x) ≡ is_wanted log x) (λ x here. sym (ap (λ b. (b && not (was_withdrawn log x)) && is_to_keep log x) here))
    (accepted_ids log) (all_among (accepted_ids log) (accepted_ids log) (λ x here. here))))
