-- The due crashes and the places since which they are due, after one more event.
use Rattle.std.proofs.Common.{◌≡◌, ℕ, ◌+◌, ◌<◌, Bool, true, false, not, ◌&&◌, List, [], ◌∷◌, ◌++◌, length, filter, eqb, Option, Some, None, cond, sym, ap, subst, ◌∙◌, arith, refl, zero-add}
use Rattle.std.specs.Prelude.{bytes_eq, filter_map, slice_get, if◌then◌else◌, unwrap_or}
use Rattle.std.specs.Option.{option_and_then, option_map, option_map_or}
use Rattle.std.specs.List.{AllByRecursion, cons_option, enumerate_from}
use Rattle.std.proofs.lemmas.Bool.{eq-eqb, eqb-true, ne_eqb}
use Rattle.std.proofs.lemmas.List.{append-nil}
use Rattle.std.proofs.lemmas.List.Elements.{filter-append, filter_agree, filter_map-append}
use Rattle.std.proofs.lemmas.Option.{slice_get_within}
use Rattle.soc_base.proofs.Folk.{none_is_not_some, some-injective}
use Rattle.soc_ledger.specs.declared.event.Event.{Event}
use Rattle.soc_ledger.specs.declared.event.Event.TheVariants.{Accepted, Asked, Withdrawn, Reported, Done, Stopped}
use Rattle.soc_ledger.specs.Due.{due_since, is_due_at_once, is_since, urged, urged_by, urged_in, waiting}
use Rattle.soc_ledger.proofs.Lists.{all-more, all-weaker, enumerate-more, filter-filter, filter-on, itself, same_text, slice_get-front, slice_get-last, true_is_not_false}
use Rattle.soc_ledger.proofs.Logs.{log_induction}
use Rattle.soc_ledger.proofs.More.{due_since-more}

-- the crash that the event at a place may make due
abbrev urged_at : List Event → ℕ → Option (List ℕ)
urged_at log place = option_and_then urged_in (slice_get log place)

urged_at-front : (log : List Event) (event : Event) (place : ℕ) (id : List ℕ) → urged_at log place ≡ Some id → urged_at (log ++ event ∷ []) place ≡ Some id
urged_at-front log event place id is =
    elim (slice_get log place) as (λ o. slice_get log place ≡ o → option_and_then urged_in o ≡ Some id → urged_at (log ++ event ∷ []) place ≡ Some id) [
      | None ↦ λ _ none. absurd (none_is_not_some none)
      | Some x ↦ λ here some. ap (option_and_then urged_in) (slice_get-front log (event ∷ []) place x here) ∙ some
    ] refl is

urged_at-last : (log : List Event) (event : Event) → urged_at (log ++ event ∷ []) (length log) ≡ urged_in event
urged_at-last log event = ap (option_and_then urged_in) (slice_get-last log event)

urged_within : (log : List Event) (place : ℕ) (id : List ℕ) → urged_at log place ≡ Some id → place < length log
urged_within log place id is =
    elim (slice_get log place) as (λ o. slice_get log place ≡ o → option_and_then urged_in o ≡ Some id → place < length log) [
      | None ↦ λ _ none. absurd (none_is_not_some none)
      | Some x ↦ λ here some. slice_get_within log place x here
    ] refl is

urged-more : (log : List Event) (event : Event) → urged (log ++ event ∷ []) ≡ urged log ++ cons_option (urged_by (length log, event)) []
urged-more log event =
    ap (λ places. filter_map urged_by places) (enumerate-more 0 log event)
    ∙ (filter_map-append urged_by (enumerate_from 0 log) ((0 + length log, event) ∷ [])
    ∙ ap (λ n. urged log ++ cons_option (urged_by (n, event)) []) (zero-add (length log)))

-- each stands at its place
abbrev AreUrged : List Event → List (ℕ × List ℕ) → Type 0
AreUrged log places = AllByRecursion (λ here. urged_at log here.0 ≡ Some here.1) places

all_urged : (log : List Event) → AreUrged log (urged log)
all_urged log = log_induction (λ l. AreUrged l (urged l)) tt more log
  where
    last : (log : List Event) (event : Event) → AreUrged (log ++ event ∷ []) (cons_option (urged_by (length log, event)) [])
    last log event =
        elim (urged_in event) as (λ o. urged_in event ≡ o → AreUrged (log ++ event ∷ []) (cons_option (option_map (λ id. (length log, id)) o) [])) [
          | None ↦ λ _. tt
          | Some id ↦ λ is. (urged_at-last log event ∙ is, tt)
        ] refl

    more : (log : List Event) (event : Event) → AreUrged log (urged log) → AreUrged (log ++ event ∷ []) (urged (log ++ event ∷ []))
    more log event all =
        subst (AreUrged (log ++ event ∷ [])) (sym (urged-more log event))
        (all-more (λ here. urged_at (log ++ event ∷ []) here.0 ≡ Some here.1) (urged log) _
        (all-weaker (λ here. urged_at log here.0 ≡ Some here.1) (λ here. urged_at (log ++ event ∷ []) here.0 ≡ Some here.1) (λ here is. urged_at-front log event here.0 here.1 is) (urged log) all)
        (last log event))

-- ---- since when a crash is due

-- at the place since which a crash is due stands an event that may make it due
abbrev DueUrged : List Event → Type 0
DueUrged log = (id : List ℕ) (place : ℕ) → due_since log id ≡ Some place → urged_at log place ≡ Some id

due_urged : (log : List Event) → DueUrged log
due_urged log = log_induction DueUrged (λ id place is. absurd (none_is_not_some is)) more log
  where
    here : (log : List Event) (event : Event) (id other : List ℕ) (place : ℕ) → urged_in event ≡ Some other → bytes_eq other id ≡ true → Some (length log) ≡ Some place → urged_at (log ++ event ∷ []) place ≡ Some id
    here log event id other place urges same is =
        ap (λ p. urged_at (log ++ event ∷ []) p) (sym (some-injective is)) ∙ (urged_at-last log event ∙ (urges ∙ ap (λ u. Some u) (same_text other id same)))

    gone : (log : List Event) (event : Event) (id : List ℕ) (place : ℕ) (b : Bool) → DueUrged log → (if b then None else due_since log id) ≡ Some place → urged_at (log ++ event ∷ []) place ≡ Some id
    gone log event id place true known is = absurd (none_is_not_some is)
    gone log event id place false known is = urged_at-front log event place id (known id place is)

    accepted : (log : List Event) (event : Event) (id other : List ℕ) (place : ℕ) (b at_once : Bool) → DueUrged log → urged_in event ≡ Some other → bytes_eq other id ≡ b
        → (if b then (if at_once then Some (length log) else None) else due_since log id) ≡ Some place → urged_at (log ++ event ∷ []) place ≡ Some id
    accepted log event id other place true true known urges same is = here log event id other place urges same is
    accepted log event id other place true false known urges same is = absurd (none_is_not_some is)
    accepted log event id other place false at_once known urges same is = urged_at-front log event place id (known id place is)

    asked : (log : List Event) (event : Event) (id other : List ℕ) (place : ℕ) (b : Bool) (since : Option ℕ) → DueUrged log → urged_in event ≡ Some other → bytes_eq other id ≡ b
        → due_since log id ≡ since → (if b then Some (unwrap_or since (length log)) else since) ≡ Some place → urged_at (log ++ event ∷ []) place ≡ Some id
    asked log event id other place true None known urges same since is = here log event id other place urges same is
    asked log event id other place true (Some p) known urges same since is = urged_at-front log event place id (known id place (since ∙ is))
    asked log event id other place false earlier known urges same since is = urged_at-front log event place id (known id place (since ∙ is))

    more : (log : List Event) (event : Event) → DueUrged log → DueUrged (log ++ event ∷ [])
    more log (Accepted other) known id place is =
        accepted log (Accepted other) id other place (bytes_eq other id) (is_due_at_once other) known refl refl (sym (due_since-more log (Accepted other) id) ∙ is)
    more log (Asked other) known id place is =
        asked log (Asked other) id other place (bytes_eq other id) (due_since log id) known refl refl refl (sym (due_since-more log (Asked other) id) ∙ is)
    more log (Withdrawn other) known id place is = gone log (Withdrawn other) id place (bytes_eq other id) known (sym (due_since-more log (Withdrawn other) id) ∙ is)
    more log (Reported other own) known id place is = gone log (Reported other own) id place (bytes_eq other id && own) known (sym (due_since-more log (Reported other own) id) ∙ is)
    more log (Done other) known id place is = gone log (Done other) id place (bytes_eq other id) known (sym (due_since-more log (Done other) id) ∙ is)
    more log Stopped known id place is = urged_at-front log Stopped place id (known id place (sym (due_since-more log Stopped id) ∙ is))

pub due_within : (log : List Event) (id : List ℕ) (place : ℕ) → due_since log id ≡ Some place → place < length log
due_within log id place is = urged_within log place id (due_urged log id place is)

-- ---- one more event

abbrev is_at : ℕ → Option ℕ → Bool
is_at place since = option_map_or (λ p. eqb p place) since false

is_at-yes : (place : ℕ) → is_at place (Some place) ≡ true
is_at-yes place = eq-eqb place place refl

is_at-no : (place p : ℕ) → p < place → is_at place (Some p) ≡ false
is_at-no place p lt = ne_eqb p place (λ e. absurd (omega arith))

is_at-later : (place p : ℕ) → place < p → is_at place (Some p) ≡ false
is_at-later place p lt = ne_eqb p place (λ e. absurd (omega arith))

module _ (log : List Event) (event : Event) where
  abbrev log' : List Event
  log' = log ++ event ∷ []

  waiting-parts : waiting log' ≡ filter (is_since log') (urged log) ++ filter (is_since log') (cons_option (urged_by (length log, event)) [])
  waiting-parts = ap (filter (is_since log')) (urged-more log event) ∙ filter-append (is_since log') (urged log) (cons_option (urged_by (length log, event)) [])

  -- nothing new is due where the event's crash isn't due since now
  last-none : ((id : List ℕ) → urged_in event ≡ Some id → is_at (length log) (due_since log' id) ≡ false) → filter (is_since log') (cons_option (urged_by (length log, event)) []) ≡ []
  last-none no_one =
      elim (urged_in event) as (λ o. urged_in event ≡ o → filter (is_since log') (cons_option (option_map (λ id. (length log, id)) o) []) ≡ []) [
        | None ↦ λ _. refl
        | Some id ↦ λ is. ap (λ b. cond b ((length log, id) ∷ []) []) (no_one id is)
      ] refl

  -- where nobody's dueness changes
  pub waiting-same : ((id : List ℕ) → due_since log' id ≡ due_since log id) → waiting log' ≡ waiting log
  waiting-same same =
      waiting-parts
      ∙ (ap (λ t. filter (is_since log') (urged log) ++ t) (last-none (λ id _. ap (is_at (length log)) (same id) ∙ not_now id (due_since log id) refl))
      ∙ (append-nil (filter (is_since log') (urged log)) ∙ filter_agree (is_since log') (is_since log) (λ here. ap (is_at here.0) (same here.1)) (urged log)))
    where
      not_now : (id : List ℕ) (since : Option ℕ) → due_since log id ≡ since → is_at (length log) since ≡ false
      not_now id None is = refl
      not_now id (Some p) is = is_at-no (length log) p (due_within log id p is)

  -- where the dueness of one crash changes alone
  module _ (id : List ℕ) (others : (q : List ℕ) → bytes_eq q id ≡ false → due_since log' q ≡ due_since log q) where
    pub waiting-due : urged_in event ≡ Some id → due_since log id ≡ None → due_since log' id ≡ Some (length log) → waiting log' ≡ waiting log ++ (length log, id) ∷ []
    waiting-due urges before after =
        waiting-parts
        ∙ (ap (λ t. t ++ filter (is_since log') (cons_option (urged_by (length log, event)) [])) (filter-on (is_since log') (is_since log) (urged log) (all-weaker _ _ same (urged log) (all_urged log)))
        ∙ (ap (λ o. waiting log ++ filter (is_since log') (cons_option (option_map (λ q. (length log, q)) o) [])) urges
        ∙ ap (λ b. waiting log ++ cond b ((length log, id) ∷ []) []) (ap (is_at (length log)) after ∙ is_at-yes (length log))))
      where
        same : (here : ℕ × List ℕ) → urged_at log here.0 ≡ Some here.1 → is_since log' here ≡ is_since log here
        same here urges' =
            elim (bytes_eq here.1 id) as (λ b. bytes_eq here.1 id ≡ b → is_since log' here ≡ is_since log here) [
              | true ↦ λ is.
                  let q : here.1 ≡ id = same_text here.1 id is in
                  ap (λ u. is_at here.0 (due_since log' u)) q
                  ∙ (ap (is_at here.0) after
                  ∙ (is_at-later here.0 (length log) (urged_within log here.0 here.1 urges')
                  ∙ sym (ap (λ u. is_at here.0 (due_since log u)) q ∙ ap (is_at here.0) before)))
              | false ↦ λ is. ap (is_at here.0) (others here.1 is)
            ] refl

    pub waiting-done : (p : ℕ) → urged_in event ≡ None → due_since log id ≡ Some p → due_since log' id ≡ None
        → waiting log' ≡ filter (λ here. not (eqb here.0 p)) (waiting log)
    waiting-done p urges before after =
        waiting-parts
        ∙ (ap (λ o. filter (is_since log') (urged log) ++ filter (is_since log') (cons_option (option_map (λ q. (length log, q)) o) [])) urges
        ∙ (append-nil (filter (is_since log') (urged log))
        ∙ (filter-on (is_since log') (λ here. is_since log here && not (eqb here.0 p)) (urged log) (all-weaker _ _ same (urged log) (all_urged log))
        ∙ sym (filter-filter (is_since log) (λ here. not (eqb here.0 p)) (urged log)))))
      where
        gone : (place : ℕ) → false ≡ (is_at place (Some p) && not (eqb place p))
        gone place =
            elim (eqb p place) as (λ b. eqb p place ≡ b → false ≡ (b && not (eqb place p))) [
              | true ↦ λ is. sym (ap not (eq-eqb place p (sym (eqb-true p place is))))
              | false ↦ λ _. refl
            ] refl

        both : (place : ℕ) (q : List ℕ) → urged_at log place ≡ Some q → bytes_eq q id ≡ false → eqb place p ≡ false
        both place q here other =
            ne_eqb place p (λ e.
            let one : Some q ≡ Some id = sym here ∙ (ap (urged_at log) e ∙ due_urged log id p before) in
            true_is_not_false (sym (ap (λ u. bytes_eq u id) (some-injective one) ∙ itself id) ∙ other))

        and_true : (b : Bool) → b ≡ (b && true)
        and_true true = refl
        and_true false = refl

        same : (here : ℕ × List ℕ) → urged_at log here.0 ≡ Some here.1 → is_since log' here ≡ (is_since log here && not (eqb here.0 p))
        same here urges' =
            elim (bytes_eq here.1 id) as (λ b. bytes_eq here.1 id ≡ b → is_since log' here ≡ (is_since log here && not (eqb here.0 p))) [
              | true ↦ λ is.
                  let q : here.1 ≡ id = same_text here.1 id is in
                  ap (λ u. is_at here.0 (due_since log' u)) q
                  ∙ (ap (is_at here.0) after
                  ∙ (gone here.0 ∙ ap (λ s. is_at here.0 s && not (eqb here.0 p)) (sym (ap (due_since log) q ∙ before))))
              | false ↦ λ is.
                  ap (is_at here.0) (others here.1 is)
                  ∙ (and_true (is_since log here) ∙ ap (λ b. is_since log here && not b) (sym (both here.0 here.1 urges' is)))
            ] refl

-- each is due since an earlier place than now
abbrev pub AreEarlier : ℕ → List (ℕ × List ℕ) → Type 0
AreEarlier n places = AllByRecursion (λ here. here.0 < n) places

kept : {A : Type 0} (P : A → Type 0) (p : A → Bool) (xs : List A) → AllByRecursion P xs → AllByRecursion P (filter p xs)
kept P p [] all = tt
kept P p (x ∷ xs) all = elim (p x) as (λ b. AllByRecursion P (cond b (x ∷ filter p xs) (filter p xs))) [ true ↦ (all.0, kept P p xs all.1) | false ↦ kept P p xs all.1 ]

pub waiting-earlier : (log : List Event) → AreEarlier (length log) (waiting log)
waiting-earlier log =
    kept (λ here. here.0 < length log) (is_since log) (urged log)
    (all-weaker (λ here. urged_at log here.0 ≡ Some here.1) (λ here. here.0 < length log) (λ here is. urged_within log here.0 here.1 is) (urged log) (all_urged log))
