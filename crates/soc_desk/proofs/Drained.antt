-- What a whole drain leaves.
use Rattle.std.proofs.Common.{◌≡◌, ℕ, ◌+◌, ◌==◌, Bool, true, false, ◌&&◌, ◌||◌, List, [], ◌∷◌, ◌++◌, length, map, reverse, filter, Option, Some, None, cond, sym, ap, subst, ◌∙◌, refl, arith}
use Rattle.std.specs.Prelude.{bytes_eq, filter_map, unwrap_or, if◌then◌else◌}
use Rattle.std.specs.List.{AllByRecursion, cons_option, enumerate_from, find, list_any}
use Rattle.std.specs.Option.{option_map, option_map_or, option_and_then}
use Rattle.std.proofs.lemmas.Bool.{eqb-true, eq-eqb}
use Rattle.std.proofs.lemmas.List.{append-nil, append_assoc, length-reverse, map-append}
use Rattle.std.proofs.lemmas.List.Elements.{filter_map-append}
use Rattle.std.proofs.lemmas.List.Folds.{list_any-append}
use Rattle.std.proofs.lemmas.Slice.Eq.{bytes_eq-Decides}
use Rattle.soc_schema.specs.declared.value.Cell.{Cell}
use Rattle.soc_ledger.specs.declared.event.Event.{Event}
use Rattle.soc_ledger.specs.declared.event.Event.TheVariants as E
use Rattle.soc_ledger.specs.Due.{due_after, due_since_back, due_since, due_ids, is_due_at_once, is_since, urged, urged_by, waiting}
use Rattle.soc_desk.specs.Basis.{Basis}
use Rattle.soc_desk.specs.Laws.{DrainsAll}
use Rattle.soc_desk.specs.Log.{Change, done, accepted_in, accepted_of, event_of, events, raw_of, row_in}
use Rattle.soc_desk.proofs.Logs.{reverse-cons, reverse-more, reverse-twice, row_in-more}
use Rattle.soc_desk.proofs.Views.{true_is_not_false, all_weaker}

-- ---- lists

enumerate-more : {A : Type 0} (n : ℕ) (xs : List A) (x : A) → enumerate_from n (xs ++ x ∷ []) ≡ enumerate_from n xs ++ (n + length xs, x) ∷ []
enumerate-more n [] x = ap (λ k. (k, x) ∷ []) (omega arith)
enumerate-more n (y ∷ xs) x =
    let same : n + 1 + length xs ≡ n + (length (y ∷ xs)) = omega arith in
    ap (λ t. (n, y) ∷ t) (enumerate-more (n + 1) xs x ∙ ap (λ k. enumerate_from (n + 1) xs ++ (k, x) ∷ []) same)

any_filter : {A : Type 0} (q f r : A → Bool) (xs : List A) → ((x : A) → q x ≡ true → (f x ≡ true) × (r x ≡ true)) → list_any q xs ≡ true → list_any r (filter f xs) ≡ true
any_filter q f r [] passes any = any
any_filter q f r (x ∷ xs) passes any =
    elim (q x) as (λ b. q x ≡ b → (b || list_any q xs) ≡ true → list_any r (filter f (x ∷ xs)) ≡ true) [
      | true ↦ λ is here.
          let both = passes x is in
          ap (λ b. list_any r (cond b (x ∷ filter f xs) (filter f xs))) both.0 ∙ ap (λ b. b || list_any r (filter f xs)) both.1
      | false ↦ λ is later. behind (f x) (any_filter q f r xs passes later)
    ] refl any where
      or_true : (b : Bool) → (b || true) ≡ true
      or_true true = refl
      or_true false = refl

      behind : (b : Bool) → list_any r (filter f xs) ≡ true → list_any r (cond b (x ∷ filter f xs) (filter f xs)) ≡ true
      behind true rest = ap (λ b. r x || b) rest ∙ or_true (r x)
      behind false rest = rest

any_map : {A B : Type 0} (f : A → B) (q : B → Bool) (xs : List A) → list_any q (map f xs) ≡ list_any (λ x. q (f x)) xs
any_map f q [] = refl
any_map f q (x ∷ xs) = ap (λ b. q (f x) || b) (any_map f q xs)

filter_none : {A : Type 0} (f : A → Bool) (xs : List A) → ((x : A) → f x ≡ false) → filter f xs ≡ []
filter_none f [] none = refl
filter_none f (x ∷ xs) none = ap (λ b. cond b (x ∷ filter f xs) (filter f xs)) (none x) ∙ filter_none f xs none

-- ---- since when a crash is due

due_since-more : (log : List Event) (event : Event) (id : List ℕ) → due_since (log ++ event ∷ []) id ≡ due_after id event (length log) (due_since log id)
due_since-more log event id =
    ap (λ back. due_since_back id back) (reverse-more log event)
    ∙ ap (λ n. due_after id event n (due_since_back id (reverse log))) (length-reverse log)

-- the event at the place since which a crash is due urges it
abbrev is_urge : ℕ → List ℕ → ℕ × List ℕ → Bool
is_urge place id here = (here.0 == place) && bytes_eq here.1 id

urged-more : (older : List Event) (event : Event) → urged (reverse (event ∷ older)) ≡ urged (reverse older) ++ cons_option (urged_by (length older, event)) []
urged-more older event =
    ap urged (reverse-cons event older)
    ∙ (ap (filter_map urged_by) (enumerate-more 0 (reverse older) event)
    ∙ (filter_map-append urged_by (enumerate_from 0 (reverse older)) ((0 + length (reverse older), event) ∷ [])
    ∙ ap (λ n. urged (reverse older) ++ cons_option (urged_by (n, event)) []) (omega (arith, length-reverse older))))

module _ (id : List ℕ) (place : ℕ) (older : List Event) where
  before : (event : Event) → list_any (is_urge place id) (urged (reverse older)) ≡ true → list_any (is_urge place id) (urged (reverse (event ∷ older))) ≡ true
  before event any =
      ap (list_any (is_urge place id)) (urged-more older event)
      ∙ (list_any-append (is_urge place id) (urged (reverse older)) (cons_option (urged_by (length older, event)) [])
      ∙ ap (λ b. b || list_any (is_urge place id) (cons_option (urged_by (length older, event)) [])) any)

  or_true : (b : Bool) → (b || true) ≡ true
  or_true true = refl
  or_true false = refl

  here : (event : Event) (other : List ℕ) → urged_by (length older, event) ≡ Some (length older, other) → bytes_eq other id ≡ true → length older ≡ place → list_any (is_urge place id) (urged (reverse (event ∷ older))) ≡ true
  here event other urges same at =
      ap (list_any (is_urge place id)) (urged-more older event)
      ∙ (list_any-append (is_urge place id) (urged (reverse older)) (cons_option (urged_by (length older, event)) [])
      ∙ (ap (λ o. list_any (is_urge place id) (urged (reverse older)) || list_any (is_urge place id) (cons_option o [])) urges
      ∙ (ap (λ b. list_any (is_urge place id) (urged (reverse older)) || ((b && bytes_eq other id) || false)) (eq-eqb (length older) place at)
      ∙ (ap (λ b. list_any (is_urge place id) (urged (reverse older)) || (b || false)) same
      ∙ or_true (list_any (is_urge place id) (urged (reverse older)))))))

some_place : (a b : ℕ) → Some a ≡ Some b → a ≡ b
some_place a b is = cc

urges : (id : List ℕ) (place : ℕ) (back : List Event) → due_since_back id back ≡ Some place → list_any (is_urge place id) (urged (reverse back)) ≡ true
urges id place [] is = cc
urges id place (E.Accepted other ∷ older) is =
    elim (bytes_eq other id) as (λ b. bytes_eq other id ≡ b → (if b then (if is_due_at_once other then Some (length older) else None) else due_since_back id older) ≡ Some place
    → list_any (is_urge place id) (urged (reverse (E.Accepted other ∷ older))) ≡ true) [
      | true ↦ λ same now. elim (is_due_at_once other) as (λ b. (if b then Some (length older) else None) ≡ Some place → list_any (is_urge place id) (urged (reverse (E.Accepted other ∷ older))) ≡ true) [
        | true ↦ λ at. here id place older (E.Accepted other) other refl same (some_place (length older) place at)
        | false ↦ λ never. cc
      ] now
      | false ↦ λ differs then_is. before id place older (E.Accepted other) (urges id place older then_is)
    ] refl is
urges id place (E.Asked other ∷ older) is =
    elim (bytes_eq other id) as (λ b. bytes_eq other id ≡ b → (if b then Some (unwrap_or (due_since_back id older) (length older)) else due_since_back id older) ≡ Some place
    → list_any (is_urge place id) (urged (reverse (E.Asked other ∷ older))) ≡ true) [
      | true ↦ λ same now. elim (due_since_back id older) as (λ o. due_since_back id older ≡ o → Some (unwrap_or o (length older)) ≡ Some place → list_any (is_urge place id) (urged (reverse (E.Asked other ∷ older))) ≡ true) [
        | None ↦ λ none at. here id place older (E.Asked other) other refl same (some_place (length older) place at)
        | Some earlier ↦ λ since at. before id place older (E.Asked other) (urges id place older (since ∙ at))
      ] refl now
      | false ↦ λ differs then_is. before id place older (E.Asked other) (urges id place older then_is)
    ] refl is
urges id place (E.Withdrawn other ∷ older) is =
    elim (bytes_eq other id) as (λ b. (if b then None else due_since_back id older) ≡ Some place → list_any (is_urge place id) (urged (reverse (E.Withdrawn other ∷ older))) ≡ true) [
      | true ↦ λ never. cc
      | false ↦ λ then_is. before id place older (E.Withdrawn other) (urges id place older then_is)
    ] is
urges id place (E.Reported other own ∷ older) is =
    elim (bytes_eq other id && own) as (λ b. (if b then None else due_since_back id older) ≡ Some place → list_any (is_urge place id) (urged (reverse (E.Reported other own ∷ older))) ≡ true) [
      | true ↦ λ never. cc
      | false ↦ λ then_is. before id place older (E.Reported other own) (urges id place older then_is)
    ] is
urges id place (E.Done other ∷ older) is =
    elim (bytes_eq other id) as (λ b. (if b then None else due_since_back id older) ≡ Some place → list_any (is_urge place id) (urged (reverse (E.Done other ∷ older))) ≡ true) [
      | true ↦ λ never. cc
      | false ↦ λ then_is. before id place older (E.Done other) (urges id place older then_is)
    ] is
urges id place (E.Stopped ∷ older) is = before id place older E.Stopped (urges id place older is)

-- a crash that is due is one of the due ones
due_listed : (log : List Event) (id : List ℕ) (place : ℕ) → due_since log id ≡ Some place → list_any (λ x. bytes_eq x id) (due_ids log) ≡ true
due_listed log id place is =
    let any : list_any (is_urge place id) (urged log) ≡ true = subst (λ l. list_any (is_urge place id) (urged l) ≡ true) (reverse-twice log) (urges id place (reverse log) is) in
    any_map (λ (x : ℕ × List ℕ). x.1) (λ x. bytes_eq x id) (waiting log)
    ∙ any_filter (is_urge place id) (is_since log) (λ x. bytes_eq x.1 id) (urged log) (λ x passes. since_too x passes) any where
      both : (a b : Bool) → (a && b) ≡ true → (a ≡ true) × (b ≡ true)
      both true b is = (refl, is)
      both false b is = absurd (true_is_not_false (sym is))

      since_too : (x : ℕ × List ℕ) → is_urge place id x ≡ true → (is_since log x ≡ true) × (bytes_eq x.1 id ≡ true)
      since_too x passes =
          let parts = both (x.0 == place) (bytes_eq x.1 id) passes in
          let same : x.1 ≡ id = (bytes_eq-Decides x.1 id).0 parts.1 in
          let at : x.0 ≡ place = eqb-true x.0 place parts.0 in (
            ap (λ i. option_map_or (λ since. since == x.0) (due_since log i) false) same
                ∙ (ap (λ o. option_map_or (λ since. since == x.0) o false) is
                ∙ eq-eqb place x.0 (sym at)),
            parts.1,
          )

-- ---- after some crashes were processed

more_done : (log : List Event) (id : List ℕ) (ids : List (List ℕ)) → log ++ map E.Done (id ∷ ids) ≡ (log ++ E.Done id ∷ []) ++ map E.Done ids
more_done log id ids = sym (append_assoc log (E.Done id ∷ []) (map E.Done ids))

stays_idle : (log : List Event) (ids : List (List ℕ)) (id : List ℕ) → due_since log id ≡ None → due_since (log ++ map E.Done ids) id ≡ None
stays_idle log [] id none = ap (λ l. due_since l id) (append-nil log) ∙ none
stays_idle log (first ∷ ids) id none =
    ap (λ l. due_since l id) (more_done log first ids)
    ∙ stays_idle (log ++ E.Done first ∷ []) ids id (due_since-more log (E.Done first) id ∙ either (bytes_eq first id)) where
      either : (b : Bool) → (if b then None else due_since log id) ≡ None
      either true = refl
      either false = none

becomes_idle : (log : List Event) (ids : List (List ℕ)) (id : List ℕ) → list_any (λ x. bytes_eq x id) ids ≡ true → due_since (log ++ map E.Done ids) id ≡ None
becomes_idle log [] id any = absurd (true_is_not_false (sym any))
becomes_idle log (first ∷ ids) id any =
    ap (λ l. due_since l id) (more_done log first ids)
    ∙ elim (bytes_eq first id) as (λ b. bytes_eq first id ≡ b → (b || list_any (λ x. bytes_eq x id) ids) ≡ true → due_since ((log ++ E.Done first ∷ []) ++ map E.Done ids) id ≡ None) [
      | true ↦ λ same here. stays_idle (log ++ E.Done first ∷ []) ids id (due_since-more log (E.Done first) id ∙ ap (λ b. if b then None else due_since log id) same)
      | false ↦ λ differs later. becomes_idle (log ++ E.Done first ∷ []) ids id later
    ] refl any

all_idle : (log : List Event) (id : List ℕ) → due_since (log ++ map E.Done (due_ids log)) id ≡ None
all_idle log id =
    elim (due_since log id) as (λ o. due_since log id ≡ o → due_since (log ++ map E.Done (due_ids log)) id ≡ None) [
      | None ↦ λ none. stays_idle log (due_ids log) id none
      | Some place ↦ λ since. becomes_idle log (due_ids log) id (due_listed log id place since)
    ] refl

none_due : (log : List Event) → due_ids (log ++ map E.Done (due_ids log)) ≡ []
none_due log =
    let log' = log ++ map E.Done (due_ids log) in
    ap (map (λ (x : ℕ × List ℕ). x.1)) (filter_none (is_since log') (urged log') (λ x. ap (λ o. option_map_or (λ since. since == x.0) o false) (all_idle log x.1)))

-- ---- rows

module _ (basis : Basis) where
  done_events : (ids : List (List ℕ)) → events basis (map done ids) ≡ map E.Done ids
  done_events [] = refl
  done_events (id ∷ ids) = ap (λ t. E.Done id ∷ t) (done_events ids)

  same_accepted : (log : List Change) (id : List ℕ) → accepted_of (log ++ done id ∷ []) ≡ accepted_of log
  same_accepted log id = filter_map-append accepted_in log (done id ∷ []) ∙ append-nil (accepted_of log)

  same_raw : (log : List Change) (id q : List ℕ) → raw_of (log ++ done id ∷ []) q ≡ raw_of log q
  same_raw log id q = ap (λ a. option_and_then (λ crash. crash.raw) (find (λ crash. bytes_eq crash.id q) a)) (same_accepted log id)

  more : (log : List Change) (id : List ℕ) (ids : List (List ℕ)) → log ++ map done (id ∷ ids) ≡ (log ++ done id ∷ []) ++ map done ids
  more log id ids = sym (append_assoc log (done id ∷ []) (map done ids))

  module _ (q : List ℕ) where
    row_next : (log : List Change) (id : List ℕ) (b : Bool) → bytes_eq id q ≡ b → row_in basis (log ++ done id ∷ []) q ≡ (if b then option_map basis.row_of (raw_of log q) else row_in basis log q)
    row_next log id b is =
        row_in-more basis log (done id) q
        ∙ (ap (λ l. if bytes_eq id q then option_map basis.row_of (raw_of l q) else row_in basis log q) (reverse-twice log)
        ∙ ap (λ c. if c then option_map basis.row_of (raw_of log q) else row_in basis log q) is)

    row_stays : (log : List Change) (ids : List (List ℕ)) (row : Option (List Cell)) → option_map basis.row_of (raw_of log q) ≡ row → row_in basis log q ≡ row → row_in basis (log ++ map done ids) q ≡ row
    row_stays log [] row raw is = ap (λ l. row_in basis l q) (append-nil log) ∙ is
    row_stays log (id ∷ ids) row raw is =
        ap (λ l. row_in basis l q) (more log id ids)
        ∙ row_stays (log ++ done id ∷ []) ids row (ap (option_map basis.row_of) (same_raw log id q) ∙ raw) (row_next log id (bytes_eq id q) refl ∙ either (bytes_eq id q)) where
          either : (b : Bool) → (if b then option_map basis.row_of (raw_of log q) else row_in basis log q) ≡ row
          either true = raw
          either false = is

    row_made : (log : List Change) (ids : List (List ℕ)) (row : Option (List Cell)) → option_map basis.row_of (raw_of log q) ≡ row → list_any (λ x. bytes_eq x q) ids ≡ true → row_in basis (log ++ map done ids) q ≡ row
    row_made log [] row raw any = absurd (true_is_not_false (sym any))
    row_made log (id ∷ ids) row raw any =
        ap (λ l. row_in basis l q) (more log id ids)
        ∙ elim (bytes_eq id q) as (λ b. bytes_eq id q ≡ b → (b || list_any (λ x. bytes_eq x q) ids) ≡ true → row_in basis ((log ++ done id ∷ []) ++ map done ids) q ≡ row) [
          | true ↦ λ same now. row_stays (log ++ done id ∷ []) ids row (ap (option_map basis.row_of) (same_raw log id q) ∙ raw) (row_next log id true same ∙ raw)
          | false ↦ λ differs later. row_made (log ++ done id ∷ []) ids row (ap (option_map basis.row_of) (same_raw log id q) ∙ raw) later
        ] refl any

own_among : (ids : List (List ℕ)) → AllByRecursion (λ id. list_any (λ x. bytes_eq x id) ids ≡ true) ids
own_among [] = tt
own_among (id ∷ ids) = (
  ap (λ b. b || list_any (λ x. bytes_eq x id) ids) ((bytes_eq-Decides id id).1 refl),
  all_weaker _ _ ids (λ q is. ap (λ b. bytes_eq id q || b) is ∙ or_true (bytes_eq id q)) (own_among ids),
) where
  or_true : (b : Bool) → (b || true) ≡ true
  or_true true = refl
  or_true false = refl

pub drains_all : DrainsAll
drains_all basis log =
    let due = due_ids (events basis log) in
    let same : events basis (log ++ map done due) ≡ events basis log ++ map E.Done due = map-append (event_of basis) log (map done due) ∙ ap (λ t. events basis log ++ t) (done_events basis due) in
    record {
      nothing_due = ap due_ids same ∙ none_due (events basis log);
      rows = all_weaker _ _ due (λ id any. row_made basis id log due (option_map basis.row_of (raw_of log id)) refl any) (own_among due);
    }
