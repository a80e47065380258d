-- The tables of a ledger tell what its log says, after each event.
use Rattle.std.proofs.Common.{◌≡◌, ℕ, zero, suc, ◌<◌, Bool, true, false, not, List, [], ◌∷◌, ◌++◌, length, get_or, set, filter, map, eqb, Option, Some, None, sym, ap, subst, ◌∙◌, arith, refl}
use Rattle.std.specs.Prelude.{IsTrue, MatchOption, bytes_eq, slice_get, if◌then◌else◌, unwrap_or}
use Rattle.std.specs.Option.{option_map, option_map_or}
use Rattle.std.specs.List.{cons_option}
use Rattle.std.proofs.lemmas.List.{append-nil, length-map, map_push}
use Rattle.std.proofs.lemmas.Option.{get_or_from_slice_get, slice_get-map, slice_get_within}
use Rattle.soc_base.proofs.Folk.{none_is_not_some, some-injective}
use Rattle.soc_ledger.specs.declared.crash.Filed.{Filed}
use Rattle.soc_ledger.specs.declared.crash.Standing.{Standing}
use Rattle.soc_ledger.specs.declared.due.Due.{Due}
use Rattle.soc_ledger.specs.declared.event.Event.{Event}
use Rattle.soc_ledger.specs.declared.event.Event.TheVariants.{Accepted, Asked, Withdrawn, Reported, Done, Stopped}
use Rattle.soc_ledger.specs.Due.{due_ids, due_since, is_due_at_once, urged_in, waiting}
use Rattle.soc_ledger.specs.Events.{accepted_in, accepted_ids, has_stop, is_among, was_accepted}
use Rattle.soc_ledger.specs.Legal.{IsLegalNext}
use Rattle.soc_ledger.specs.State.{LedgerState, id_of, standing_of}
use Rattle.soc_ledger.specs.inner.Tables.{AreBefore, Tells, about, ids_in, named, queue_after, standing_after}
use Rattle.soc_ledger.proofs.Lists.{AreDistinct, filter-map, itself, map-one, map-others, place_among, same_text, slice_get-front, slice_get-last, turned}
use Rattle.soc_ledger.proofs.Logs.{distinct_ids, legal-more, unknown, unknown_crash}
use Rattle.soc_ledger.proofs.More.{accepted_ids-more, is_about, standing_of-more}
use Rattle.soc_ledger.proofs.Waiting.{AreEarlier, waiting-done, waiting-due, waiting-earlier, waiting-same}

is_true_not : (b : Bool) → b ≡ false → IsTrue (not b)
is_true_not b is = ap not is

map_agree : {A B : Type 0} (f g : A → B) → ((x : A) → f x ≡ g x) → (xs : List A) → map f xs ≡ map g xs
map_agree f g same [] = refl
map_agree f g same (x ∷ xs) = ap (λ y. y ∷ map f xs) (same x) ∙ ap (λ t. g x ∷ t) (map_agree f g same xs)

-- ---- what an event says of one crash and not of the others

module _ (log : List Event) (event : Event) (id : List ℕ) (of : about event ≡ Some id) where
  abbrev log' : List Event
  log' = log ++ event ∷ []

  about_this : (q : List ℕ) → is_about event q ≡ bytes_eq id q
  about_this q = ap (λ o. option_map_or (λ other. bytes_eq other q) o false) of

  pub standing_others : (q : List ℕ) → bytes_eq q id ≡ false → standing_of log' q ≡ standing_of log q
  standing_others q other =
      standing_of-more log q event
      ∙ ap (λ b. if b then standing_after event (length log) (standing_of log q) else standing_of log q) (about_this q ∙ turned q id other)

  pub standing_this : standing_of log' id ≡ standing_after event (length log) (standing_of log id)
  standing_this =
      standing_of-more log id event
      ∙ ap (λ b. if b then standing_after event (length log) (standing_of log id) else standing_of log id) (about_this id ∙ itself id)

  due_others : (q : List ℕ) → bytes_eq q id ≡ false → due_since log' q ≡ due_since log q
  due_others q other = ap (λ s. s.due_since) (standing_others q other)

  due_this : due_since log' id ≡ (standing_after event (length log) (standing_of log id)).due_since
  due_this = ap (λ s. s.due_since) standing_this

  all_same : due_since log' id ≡ due_since log id → (q : List ℕ) → due_since log' q ≡ due_since log q
  all_same same q =
      elim (bytes_eq q id) as (λ b. bytes_eq q id ≡ b → due_since log' q ≡ due_since log q) [
        | true ↦ λ is. let e : q ≡ id = same_text q id is in ap (λ u. due_since log' u) e ∙ (same ∙ sym (ap (λ u. due_since log u) e))
        | false ↦ λ is. due_others q is
      ] refl

-- the waiting crashes once one of them is due since another place than before
abbrev pub waiting_after : List ℕ → Option ℕ → Option ℕ → List (ℕ × List ℕ) → List (ℕ × List ℕ)
waiting_after id None None places = places
waiting_after id None (Some since) places = places ++ (since, id) ∷ []
waiting_after id (Some since) None places = filter (λ here. not (eqb here.0 since)) places
waiting_after id (Some since) (Some later) places = places

-- a new crash isn't due before it is accepted
abbrev IsFresh : List Event → Event → List ℕ → Type 0
IsFresh log (Accepted other) id = due_since log id ≡ None
IsFresh log (Asked other) id = Unit {0}
IsFresh log (Withdrawn other) id = Unit {0}
IsFresh log (Reported other own) id = Unit {0}
IsFresh log (Done other) id = Unit {0}
IsFresh log Stopped id = Unit {0}

abbrev due_next : List Event → Event → List ℕ → Option ℕ
due_next log event id = (standing_after event (length log) (standing_of log id)).due_since

-- an event that ends the dueness of its crash
ended : (log : List Event) (event : Event) (id : List ℕ) → about event ≡ Some id → urged_in event ≡ None → due_next log event id ≡ None
    → waiting (log ++ event ∷ []) ≡ waiting_after id (due_since log id) None (waiting log)
ended log event id of urges none =
    elim (due_since log id) as (λ o. due_since log id ≡ o → waiting (log ++ event ∷ []) ≡ waiting_after id o None (waiting log)) [
      | None ↦ λ is. waiting-same log event (all_same log event id of (due_this log event id of ∙ (none ∙ sym is)))
      | Some p ↦ λ is. waiting-done log event id (due_others log event id of) p urges is (due_this log event id of ∙ none)
    ] refl

left_so : (id : List ℕ) (o : Option ℕ) (places : List (ℕ × List ℕ)) → places ≡ waiting_after id o o places
left_so id None places = refl
left_so id (Some p) places = refl

waiting-follow : (log : List Event) (event : Event) (id : List ℕ) → about event ≡ Some id → IsFresh log event id
    → waiting (log ++ event ∷ []) ≡ waiting_after id (due_since log id) (due_next log event id) (waiting log)
waiting-follow log (Accepted other) id of fresh =
    elim (is_due_at_once other) as (λ b. is_due_at_once other ≡ b
    → waiting (log ++ Accepted other ∷ []) ≡ waiting_after id (due_since log id) (if b then Some (length log) else None) (waiting log)) [
      | true ↦ λ is.
          waiting-due log (Accepted other) id (due_others log (Accepted other) id of) of fresh (due_this log (Accepted other) id of ∙ ap (λ b. if b then Some (length log) else None) is)
          ∙ sym (ap (λ o. waiting_after id o (Some (length log)) (waiting log)) fresh)
      | false ↦ λ is.
          waiting-same log (Accepted other) (all_same log (Accepted other) id of (due_this log (Accepted other) id of ∙ (ap (λ b. if b then Some (length log) else None) is ∙ sym fresh)))
          ∙ sym (ap (λ o. waiting_after id o None (waiting log)) fresh)
    ] refl
waiting-follow log (Asked other) id of fresh =
    elim (due_since log id) as (λ o. due_since log id ≡ o → waiting (log ++ Asked other ∷ []) ≡ waiting_after id o (Some (unwrap_or o (length log))) (waiting log)) [
      | None ↦ λ is. waiting-due log (Asked other) id (due_others log (Asked other) id of) of is (due_this log (Asked other) id of ∙ ap (λ o. Some (unwrap_or o (length log))) is)
      | Some p ↦ λ is. waiting-same log (Asked other) (all_same log (Asked other) id of (due_this log (Asked other) id of ∙ (ap (λ o. Some (unwrap_or o (length log))) is ∙ sym is)))
    ] refl
waiting-follow log (Withdrawn other) id of fresh = ended log (Withdrawn other) id of refl refl
waiting-follow log (Reported other true) id of fresh = ended log (Reported other true) id of refl refl
waiting-follow log (Reported other false) id of fresh =
    waiting-same log (Reported other false) (all_same log (Reported other false) id of (due_this log (Reported other false) id of)) ∙ left_so id (due_since log id) (waiting log)
waiting-follow log (Done other) id of fresh = ended log (Done other) id of refl refl
waiting-follow log Stopped id of fresh = absurd (none_is_not_some of)

-- where a crash that wasn't due becomes due, it is due since now
pub since_now : (event : Event) (now since : ℕ) (s : Standing) → s.due_since ≡ None → (standing_after event now s).due_since ≡ Some since → since ≡ now
since_now (Accepted id) now since s before after =
    elim (is_due_at_once id) as (λ b. (if b then Some now else None) ≡ Some since → since ≡ now) [ true ↦ λ is. some-injective (sym is) | false ↦ λ is. absurd (none_is_not_some is) ] after
since_now (Asked id) now since s before after = some-injective (sym after ∙ ap (λ o. Some (unwrap_or o now)) before)
since_now (Withdrawn id) now since s before after = absurd (none_is_not_some after)
since_now (Reported id true) now since s before after = absurd (none_is_not_some after)
since_now (Reported id false) now since s before after = absurd (none_is_not_some (sym before ∙ after))
since_now (Done id) now since s before after = absurd (none_is_not_some after)
since_now Stopped now since s before after = absurd (none_is_not_some (sym before ∙ after))

-- ---- the queue by ids and by numbers

abbrev seen : ℕ × List ℕ → ℕ × Option (List ℕ)
seen here = (here.0, Some here.1)

abbrev Shows : List (List ℕ) → List Due → List (ℕ × List ℕ) → Type 0
Shows ids due places = map (named ids) due ≡ map seen places

head_same : {A : Type 0} {x y : A} {xs ys : List A} → x ∷ xs ≡ y ∷ ys → x ≡ y
head_same is = cc

tail_same : {A : Type 0} {x y : A} {xs ys : List A} → x ∷ xs ≡ y ∷ ys → xs ≡ ys
tail_same is = cc

no_head : {A : Type 0} {x : A} {xs : List A} {P : Type 0} → x ∷ xs ≡ [] → P
no_head is = absurd (let none : ⊥ = cc in none)

shows-longer : (ids more : List (List ℕ)) (due : List Due) (places : List (ℕ × List ℕ)) → Shows ids due places → Shows (ids ++ more) due places
shows-longer ids more [] places is = is
shows-longer ids more (d ∷ due) [] is = no_head is
shows-longer ids more (d ∷ due) (here ∷ places) is =
    let here_same : named ids d ≡ seen here = head_same is in
    ap (λ u. u ∷ map (named (ids ++ more)) due)
    (ap (λ o. (d.since, o)) (slice_get-front ids more d.number here.1 (ap (λ u. u.1) here_same)) ∙ ap (λ n. (n, Some here.1)) (ap (λ u. u.0) here_same))
    ∙ ap (λ t. seen here ∷ t) (shows-longer ids more due places (tail_same is))

shows-before : (ids : List (List ℕ)) (due : List Due) (places : List (ℕ × List ℕ)) (n : ℕ) → Shows ids due places → AreEarlier n places → AreBefore n due
shows-before ids [] places n is earlier = tt
shows-before ids (d ∷ due) [] n is earlier = no_head is
shows-before ids (d ∷ due) (here ∷ places) n is earlier =
    (subst (λ u. u < n) (sym (ap (λ u. u.0) (head_same is))) earlier.0, shows-before ids due places n (tail_same is) earlier.1)

shows-after : (ids : List (List ℕ)) (due : List Due) (places : List (ℕ × List ℕ)) (number : ℕ) (id : List ℕ) (before after : Option ℕ) → slice_get ids number ≡ Some id
    → Shows ids due places → Shows ids (queue_after number before after due) (waiting_after id before after places)
shows-after ids due places number id None None at is = is
shows-after ids due places number id None (Some since) at is =
    map_push (named ids) due (record { since = since; number = number })
    ∙ (ap (λ t. t ++ (since, slice_get ids number) ∷ []) is
    ∙ (ap (λ o. map seen places ++ (since, o) ∷ []) at
    ∙ sym (map_push seen places (since, id))))
shows-after ids due places number id (Some since) None at is =
    sym (filter-map (named ids) (λ v. not (eqb v.0 since)) due) ∙ (ap (filter (λ v. not (eqb v.0 since))) is ∙ filter-map seen (λ v. not (eqb v.0 since)) places)
shows-after ids due places number id (Some since) (Some later) at is = is

-- ---- the whole

-- the crash of a number stands as the log says
pub standing_at : {log : List Event} {ids : List (List ℕ)} {standings : List Standing} {due : List Due} → Tells log ids standings due
    → (number : ℕ) (s : Standing) (id : List ℕ) → slice_get standings number ≡ Some s → slice_get ids number ≡ Some id → s ≡ standing_of log id
standing_at {log = log} {ids = ids} tells number s id at here =
    some-injective (sym at ∙ (ap (λ l. slice_get l number) tells.crashes ∙ (slice_get-map (standing_of log) ids number ∙ ap (option_map (standing_of log)) here)))

pub queue_before : {log : List Event} {ids : List (List ℕ)} {standings : List Standing} {due : List Due} → Tells log ids standings due → AreBefore (length log) due
queue_before {log = log} {ids = ids} {due = due} tells = shows-before ids due (waiting log) (length log) tells.queue (waiting-earlier log)

module _ (log : List Event) (ids : List (List ℕ)) (standings : List Standing) (due : List Due) (tells : Tells log ids standings due) where
  -- an event of an accepted crash
  pub tells-change : (event : Event) (id : List ℕ) (number : ℕ) → about event ≡ Some id → accepted_in event ≡ None → IsLegalNext log event → slice_get ids number ≡ Some id
      → Tells (log ++ event ∷ []) ids (set standings number (standing_after event (length log) (standing_of log id)))
      (queue_after number (due_since log id) (due_next log event id) due)
  tells-change event id number of old next at =
      let lt : number < length ids = slice_get_within ids number id at in
      let here : get_or ids number [] ≡ id = get_or_from_slice_get ids number id [] at in record {
        legal = legal-more log event tells.legal next;
        numbers = tells.numbers ∙ sym (accepted_ids-more log event ∙ (ap (λ o. accepted_ids log ++ cons_option o []) old ∙ append-nil (accepted_ids log)));
        crashes =
            ap (λ l. set l number (standing_after event (length log) (standing_of log id))) tells.crashes
            ∙ (ap (λ s. set (map (standing_of log) ids) number s) (sym (standing_this log event id of))
            ∙ sym (map-one (standing_of (log ++ event ∷ [])) (standing_of log) id (standing_others log event id of) ids number
            (subst AreDistinct (sym tells.numbers) (distinct_ids log tells.legal)) lt here));
        queue =
            shows-after ids due (waiting log) number id (due_since log id) (due_next log event id) at tells.queue
            ∙ sym (ap (map seen) (waiting-follow log event id of (fresh event old)));
      }
    where
      fresh : (event : Event) → accepted_in event ≡ None → IsFresh log event id
      fresh (Accepted other) old = absurd (none_is_not_some (sym old))
      fresh (Asked other) old = tt
      fresh (Withdrawn other) old = tt
      fresh (Reported other own) old = tt
      fresh (Done other) old = tt
      fresh Stopped old = tt

  -- a new crash
  pub tells-accept : (id : List ℕ) → was_accepted log id ≡ false
      → Tells (log ++ Accepted id ∷ []) (ids ++ id ∷ []) (standings ++ standing_after (Accepted id) (length log) unknown ∷ [])
      (queue_after (length ids) None (standing_after (Accepted id) (length log) unknown).due_since due)
  tells-accept id new =
      let not_known : standing_of log id ≡ unknown = unknown_crash log tells.legal id new in
      let not_among : is_among ids id ≡ false = ap (λ l. is_among l id) tells.numbers ∙ new in record {
        legal = legal-more log (Accepted id) tells.legal (is_true_not (was_accepted log id) new);
        numbers = ap (λ l. l ++ id ∷ []) tells.numbers ∙ sym (accepted_ids-more log (Accepted id));
        crashes =
            ap (λ l. l ++ standing_after (Accepted id) (length log) unknown ∷ [])
            (tells.crashes ∙ sym (map-others (standing_of (log ++ Accepted id ∷ [])) (standing_of log) id (standing_others log (Accepted id) id refl) ids not_among))
            ∙ (ap (λ s. map (standing_of (log ++ Accepted id ∷ [])) ids ++ s ∷ []) (sym (standing_this log (Accepted id) id refl ∙ ap (standing_after (Accepted id) (length log)) not_known))
            ∙ sym (map_push (standing_of (log ++ Accepted id ∷ [])) ids id));
        queue =
            shows-after (ids ++ id ∷ []) due (waiting log) (length ids) id None (standing_after (Accepted id) (length log) unknown).due_since (slice_get-last ids id)
            (shows-longer ids (id ∷ []) due (waiting log) tells.queue)
            ∙ sym (ap (map seen) (waiting-follow log (Accepted id) id refl (ap (λ s. s.due_since) not_known) ∙ ap (λ s. waiting_after id s.due_since (standing_after (Accepted id) (length log) s).due_since (waiting log)) not_known));
      }

  -- the stop
  pub tells-stop : has_stop log ≡ false → Tells (log ++ Stopped ∷ []) ids standings due
  tells-stop goes_on =
      let same : (q : List ℕ) → standing_of (log ++ Stopped ∷ []) q ≡ standing_of log q = λ q. standing_of-more log q Stopped in record {
        legal = legal-more log Stopped tells.legal (is_true_not (has_stop log) goes_on);
        numbers = tells.numbers ∙ sym (accepted_ids-more log Stopped ∙ append-nil (accepted_ids log));
        crashes = tells.crashes ∙ sym (map_agree (standing_of (log ++ Stopped ∷ [])) (standing_of log) same ids);
        queue = tells.queue ∙ sym (ap (map seen) (waiting-same log Stopped (λ q. ap (λ s. s.due_since) (same q))));
      }

pub tells-none : Tells [] [] [] []
tells-none = record { legal = tt; numbers = refl; crashes = refl; queue = refl }

-- ---- what the calls of a ledger read and leave

pub id_count : (filed : List Filed) → length filed ≡ length (ids_in filed)
id_count filed = sym (length-map filed (λ f. f.id))

-- the id of a crash that is there
pub id_there : (ledger : LedgerState) (number : ℕ) (f : Filed) → slice_get ledger.crashes number ≡ Some f → slice_get (ids_in ledger.crashes) number ≡ Some (id_of ledger number)
id_there ledger number f at =
    slice_get-map (λ (x : Filed). x.id) ledger.crashes number
    ∙ (ap (option_map (λ (x : Filed). x.id)) at ∙ ap (λ o. Some (option_map_or (λ (x : Filed). x.id) o [])) (sym at))

pub id_found : (ledger : LedgerState) (number : ℕ) (id : List ℕ) → slice_get (ids_in ledger.crashes) number ≡ Some id → (number < length ledger.crashes) × (id_of ledger number ≡ id)
id_found ledger number id at =
    let lt : number < length (ids_in ledger.crashes) = slice_get_within (ids_in ledger.crashes) number id at in
    let same : length (ids_in ledger.crashes) ≡ length ledger.crashes = sym (id_count ledger.crashes) in
    (omega arith, of (slice_get ledger.crashes number) refl)
  where
    of : (o : Option Filed) → slice_get ledger.crashes number ≡ o → id_of ledger number ≡ id
    of None none = absurd (none_is_not_some (sym (slice_get-map (λ (x : Filed). x.id) ledger.crashes number ∙ ap (option_map (λ (x : Filed). x.id)) none) ∙ at))
    of (Some f) some = some-injective (sym (id_there ledger number f some) ∙ at)

-- the due crash at a place
pub shown_at : (ids : List (List ℕ)) (due : List Due) (places : List (ℕ × List ℕ)) (i number : ℕ) → Shows ids due places → option_map (λ (d : Due). d.number) (slice_get due i) ≡ Some number
    → (id : List ℕ) × (slice_get (map (λ here. here.1) places) i ≡ Some id) × (slice_get ids number ≡ Some id)
shown_at ids [] places i number is at = absurd (none_is_not_some at)
shown_at ids (d ∷ due) [] i number is at = no_head is
shown_at ids (d ∷ due) (here ∷ places) zero number is at =
    let same : d.number ≡ number = some-injective at in (here.1, refl, ap (slice_get ids) (sym same) ∙ ap (λ u. u.1) (head_same is))
shown_at ids (d ∷ due) (here ∷ places) (suc i) number is at = shown_at ids due places i number (tail_same is) at

pub shown_count : (ids : List (List ℕ)) (due : List Due) (places : List (ℕ × List ℕ)) → Shows ids due places → length due ≡ length places
shown_count ids due places is = sym (length-map due (named ids)) ∙ (ap length is ∙ length-map places seen)

pub due_found : (ledger : LedgerState) (due : List Due) (i number : ℕ) → Shows (ids_in ledger.crashes) due (waiting ledger.log) → option_map (λ (d : Due). d.number) (slice_get due i) ≡ Some number
    → (number < length ledger.crashes) × (slice_get (due_ids ledger.log) i ≡ Some (id_of ledger number))
due_found ledger due i number shows at =
    let here = shown_at (ids_in ledger.crashes) due (waiting ledger.log) i number shows at in
    let found = id_found ledger number here.0 here.2 in
    (found.0, here.1 ∙ ap (λ u. Some u) (sym found.1))

pub number_matches : (ledger : LedgerState) (id : List ℕ) (r : Option ℕ) → ids_in ledger.crashes ≡ accepted_ids ledger.log
    → MatchOption r (is_among (ids_in ledger.crashes) id ≡ false) (λ number. slice_get (ids_in ledger.crashes) number ≡ Some id)
    → MatchOption r (was_accepted ledger.log id ≡ false) (λ number. IsTrue (was_accepted ledger.log id) × (number < length ledger.crashes) × (id_of ledger number ≡ id))
number_matches ledger id None ids none = ap (λ l. is_among l id) (sym ids) ∙ none
number_matches ledger id (Some number) ids at =
    let found = id_found ledger number id at in
    let lt : number < length (ids_in ledger.crashes) = slice_get_within (ids_in ledger.crashes) number id at in (
      ap (λ l. is_among l id) (sym ids)
          ∙ (ap (is_among (ids_in ledger.crashes)) (sym (get_or_from_slice_get (ids_in ledger.crashes) number id [] at)) ∙ place_among (ids_in ledger.crashes) number lt),
      found.0,
      found.1,
    )

module _ {log : List Event} {ids : List (List ℕ)} {standings : List Standing} {due : List Due} (tells : Tells log ids standings due) where
  -- a crash that becomes due goes behind the others
  pub goes_last : (event : Event) (now since : ℕ) (before after : Standing) → now ≡ length log → after ≡ standing_after event now before
      → before.due_since ≡ None → after.due_since ≡ Some since → AreBefore since due
  goes_last event now since before after is next none some =
      subst (λ n. AreBefore n due) (sym (since_now event now since before none (ap (λ s. s.due_since) (sym next) ∙ some) ∙ is)) (queue_before tells)

  pub tells-changed : (event : Event) (id : List ℕ) (number now : ℕ) (before after : Standing) (log' : List Event) (ids' : List (List ℕ)) (standings' : List Standing) (due' : List Due)
      → about event ≡ Some id → accepted_in event ≡ None → IsLegalNext log event → slice_get ids number ≡ Some id → slice_get standings number ≡ Some before
      → now ≡ length log → after ≡ standing_after event now before
      → log' ≡ log ++ event ∷ [] → ids' ≡ ids → standings' ≡ set standings number after → due' ≡ queue_after number before.due_since after.due_since due
      → Tells log' ids' standings' due'
  tells-changed event id number now before after log' ids' standings' due' of old legal at stood is next more same stands queue =
      let was : before ≡ standing_of log id = standing_at tells number before id stood at in
      let will : after ≡ standing_after event (length log) (standing_of log id) = next ∙ (ap (λ n. standing_after event n before) is ∙ ap (standing_after event (length log)) was) in
      let queued : due' ≡ queue_after number (due_since log id) (due_next log event id) due =
      queue ∙ (ap (λ s. queue_after number s.due_since after.due_since due) was ∙ ap (λ s. queue_after number (due_since log id) s.due_since due) will) in
      subst (λ d. Tells log' ids' standings' d) (sym queued)
      (subst (λ l. Tells log' ids' l (queue_after number (due_since log id) (due_next log event id) due)) (sym (stands ∙ ap (set standings number) will))
      (subst (λ l. Tells log' l (set standings number (standing_after event (length log) (standing_of log id))) (queue_after number (due_since log id) (due_next log event id) due)) (sym same)
      (subst (λ l. Tells l ids (set standings number (standing_after event (length log) (standing_of log id))) (queue_after number (due_since log id) (due_next log event id) due)) (sym more)
      (tells-change log ids standings due tells event id number of old legal at))))

  pub tells-accepted : (id : List ℕ) (number now : ℕ) (fresh after : Standing) (log' : List Event) (ids' : List (List ℕ)) (standings' : List Standing) (due' : List Due)
      → was_accepted log id ≡ false → number ≡ length ids → fresh ≡ unknown → now ≡ length log → after ≡ standing_after (Accepted id) now fresh
      → log' ≡ log ++ Accepted id ∷ [] → ids' ≡ ids ++ id ∷ [] → standings' ≡ standings ++ after ∷ [] → due' ≡ queue_after number None after.due_since due
      → Tells log' ids' standings' due'
  tells-accepted id number now fresh after log' ids' standings' due' new numbered known is next more longer stands queue =
      let first : Standing = standing_after (Accepted id) (length log) unknown in
      let will : after ≡ first = next ∙ (ap (λ n. standing_after (Accepted id) n fresh) is ∙ ap (standing_after (Accepted id) (length log)) known) in
      let queued : due' ≡ queue_after (length ids) None first.due_since due = queue ∙ (ap (λ n. queue_after n None after.due_since due) numbered ∙ ap (λ s. queue_after (length ids) None s.due_since due) will) in
      subst (λ d. Tells log' ids' standings' d) (sym queued)
      (subst (λ l. Tells log' ids' l (queue_after (length ids) None first.due_since due)) (sym (stands ∙ ap (λ s. standings ++ s ∷ []) will))
      (subst (λ l. Tells log' l (standings ++ first ∷ []) (queue_after (length ids) None first.due_since due)) (sym longer)
      (subst (λ l. Tells l (ids ++ id ∷ []) (standings ++ first ∷ []) (queue_after (length ids) None first.due_since due)) (sym more)
      (tells-accept log ids standings due tells id new))))
