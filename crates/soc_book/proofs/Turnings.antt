-- What turns, drains, fetches, finishes and stops do.
use Rattle.std.proofs.Common.{◌≡◌, ◌≢◌, ℕ, zero, suc, ◌+◌, ◌-◌, ◌<◌, ◌≤◌, eqb, Bool, true, false, not, ◌&&◌, IsTrue, List, [], ◌∷◌, ◌++◌, length, map, take, drop, Option, Some, None, cond, sym, ap, subst, ◌∙◌, refl, arith, inl, inr, add-one}
use Rattle.soc_book.proofs.Words.{bytes_eq, filter, filter_map, is_some, slice_get, if◌then◌else◌, AllByRecursion, cons_option, enumerate_from, option_map, option_map_or, eqb-true, ne_eqb, eq-eqb, append-nil, map-append, length-drop, drop-drop, take_all, bytes_eq-Decides, RawCrash, Caller, Operate, Cell, Report, DiskTold, IsDisk, Looks, GoesOn, DiskFailed, Looks-none, JournalState, Filed, Event, due_ids, due_since, is_due, is_since, urged, urged_by, urged_in, waiting, is_held, has_stop, AreLegal, Standing, LedgerState, id_of, standing_of, with_event, turned, due_since-more, with_row, Command, Limits, Refusal, Reply, IsStoreFault, IsAltered, Basis, without, IfElse, IsOfLog, Step, TurnsFirst, with_done, Grows, IsDueAt, IsReplyTo, done, stop, events, raw_of, State, doubted, events-more, all_weaker, Pending, Does, IsHeldAs, IsRead, Stands, IsTurned, TurnsTo, due_of, slice_get_within, none_is_not_some, some-injective}
use Rattle.std.specs.Prelude.{Result, Ok, Err}
use Rattle.std.proofs.lemmas.List.{append_assoc}
use Rattle.soc_ledger.specs.declared.event.Event.TheVariants as E
use Rattle.soc_ledger.proofs.Waiting.{waiting-done}
use Rattle.soc_desk.specs.declared.desk.Command.TheVariants as C
use Rattle.soc_desk.specs.declared.desk.Refusal.TheVariants as F
use Rattle.soc_desk.specs.declared.desk.Reply.TheVariants as R
use Rattle.soc_desk.proofs.Dues.{due_by_history}
use Rattle.soc_desk.proofs.Views.{true_is_not_false}
use Rattle.soc_book.proofs.Lookups.{held_is, survives_looking}
use Rattle.soc_book.proofs.Quiets.{done_quiet, done_rows, stands_behind, stands_room, stop_quiet, stop_rows}
use Rattle.soc_book.proofs.Readings.{all_passing, forbidden, permitted, stays}
use Rattle.soc_book.proofs.Filing.{all_got}
use Rattle.soc_book.proofs.Deciding.{failed_later}
use Rattle.soc_book.proofs.Kept.{heads, tails}

-- ---- lists

first_of : {A : Type 0} (xs : List A) (x : A) → slice_get xs 0 ≡ Some x → (later : List A) × (xs ≡ x ∷ later)
first_of [] x is = absurd (none_is_not_some is)
first_of (y ∷ ys) x is = (ys, ap (λ z. z ∷ ys) (some-injective is))

some_first : {A : Type 0} (xs : List A) → 0 < length xs → (x : A) × (later : List A) × (xs ≡ x ∷ later)
some_first [] some = absurd (omega arith)
some_first (x ∷ xs) some = (x, xs, refl)

drop_front : {A : Type 0} (n : ℕ) (xs : List A) → slice_get (drop n xs) 0 ≡ slice_get xs n
drop_front zero xs = refl
drop_front (suc n) [] = refl
drop_front (suc n) (x ∷ xs) = drop_front n xs

take_next : {A : Type 0} (n : ℕ) (xs : List A) (x : A) → slice_get xs n ≡ Some x → take (suc n) xs ≡ take n xs ++ x ∷ []
take_next n [] x is = absurd (none_is_not_some is)
take_next zero (y ∷ ys) x is = ap (λ z. z ∷ []) (some-injective is)
take_next (suc n) (y ∷ ys) x is = ap (λ l. y ∷ l) (take_next n ys x is)

-- ---- due crashes

some_since : (o : Option ℕ) (place : ℕ) → option_map_or (λ since. eqb since place) o false ≡ true → o ≡ Some place
some_since None place is = absurd (true_is_not_false (sym is))
some_since (Some since) place is = ap Some (eqb-true since place is)

waiting_since : (log : List Event) → AllByRecursion (λ here. due_since log here.1 ≡ Some here.0) (waiting log)
waiting_since log =
    all_weaker (λ here. is_since log here ≡ true) (λ here. due_since log here.1 ≡ Some here.0) (waiting log) (λ here is. some_since (due_since log here.1) here.0 is) (all_passing (is_since log) (urged log))

all_second : (P : List ℕ → Type 0) (xs : List (ℕ × List ℕ)) → AllByRecursion (λ here. P here.1) xs → AllByRecursion P (map (λ here. here.1) xs)
all_second P [] all = tt
all_second P (x ∷ xs) all = (all.0, all_second P xs all.1)

-- a listed crash is due
due_each : (log : List Event) → AllByRecursion (λ id. is_due log id ≡ true) (due_ids log)
due_each log = all_second (λ id. is_due log id ≡ true) (waiting log) (all_weaker (λ here. due_since log here.1 ≡ Some here.0) (λ here. is_due log here.1 ≡ true) (waiting log) (λ here is. ap is_some is) (waiting_since log))

pub listed_due : (log : List Event) (place : ℕ) (id : List ℕ) → slice_get (due_ids log) place ≡ Some id → is_due log id ≡ true
listed_due log place id is = all_got (λ x. is_due log x ≡ true) (due_ids log) place id (due_each log) is

-- a due crash is held
pub due_held : (log : List Event) (id : List ℕ) → AreLegal log → is_due log id ≡ true → is_held log id ≡ true
due_held log id legal due = front (is_held log id) _ (sym (due_by_history log id legal) ∙ due) where
  front : (h r : Bool) → (h && r) ≡ true → h ≡ true
  front true r is = refl
  front false r is = absurd (true_is_not_false (sym is))

-- what isn't held isn't due
pub unheld_idle : (log : List Event) (id : List ℕ) → AreLegal log → is_held log id ≡ false → is_due log id ≡ false
unheld_idle log id legal gone = due_by_history log id legal ∙ front (is_held log id) _ gone where
  front : (h r : Bool) → h ≡ false → (h && r) ≡ false
  front true r is = absurd (true_is_not_false is)
  front false r is = refl

-- places that rise from one on
abbrev RisesFrom : ℕ → List (ℕ × List ℕ) → Type 0
RisesFrom n [] = Unit {0}
RisesFrom n (here ∷ others) = (n ≤ here.0) × RisesFrom (suc here.0) others

rises_weaker : (m n : ℕ) (xs : List (ℕ × List ℕ)) → m ≤ n → RisesFrom n xs → RisesFrom m xs
rises_weaker m n [] le rise = tt
rises_weaker m n (x ∷ xs) le rise = (let h : n ≤ x.0 = rise.0 in omega (arith, h), rise.1)

urged_rise : (n : ℕ) (log : List Event) → RisesFrom n (filter_map urged_by (enumerate_from n log))
urged_rise n [] = tt
urged_rise n (event ∷ log) =
    let rest : RisesFrom (n + 1) (filter_map urged_by (enumerate_from (n + 1) log)) = urged_rise (n + 1) log in
    elim (urged_in event) as (λ o. RisesFrom n (cons_option (option_map (λ id. (n, id)) o) (filter_map urged_by (enumerate_from (n + 1) log)))) [
      | None ↦ rises_weaker n (n + 1) (filter_map urged_by (enumerate_from (n + 1) log)) (omega arith) rest
      | Some id ↦ (omega arith, rises_weaker (suc n) (n + 1) (filter_map urged_by (enumerate_from (n + 1) log)) (omega arith) rest)
    ]

kept_rise : (test : ℕ × List ℕ → Bool) (n : ℕ) (xs : List (ℕ × List ℕ)) → RisesFrom n xs → RisesFrom n (filter test xs)
kept_rise test n [] rise = tt
kept_rise test n (x ∷ xs) rise =
    let rest : RisesFrom (suc x.0) (filter test xs) = kept_rise test (suc x.0) xs rise.1 in
    let low : n ≤ x.0 = rise.0 in
    elim (test x) as (λ b. RisesFrom n (cond b (x ∷ filter test xs) (filter test xs))) [ true ↦ (low, rest) | false ↦ rises_weaker n (suc x.0) (filter test xs) (omega (arith, low)) rest ]

none_out : (p n : ℕ) (xs : List (ℕ × List ℕ)) → p < n → RisesFrom n xs → filter (λ here. not (eqb here.0 p)) xs ≡ xs
none_out p n [] lt rise = refl
none_out p n (x ∷ xs) lt rise =
    let low : n ≤ x.0 = rise.0 in
    let apart : x.0 ≢ p = omega (arith, low, lt) in
    ap (λ b. cond (not b) (x ∷ filter (λ here. not (eqb here.0 p)) xs) (filter (λ here. not (eqb here.0 p)) xs)) (ne_eqb x.0 p apart)
    ∙ ap (λ l. x ∷ l) (none_out p (suc x.0) xs (omega (arith, low, lt)) rise.1)

-- once the first due crash is processed, the others are due
next_waiting : (log : List Event) (place : ℕ) (id : List ℕ) (later : List (ℕ × List ℕ)) → waiting log ≡ (place, id) ∷ later → waiting (log ++ E.Done id ∷ []) ≡ later
next_waiting log place id later is =
    let since : AllByRecursion (λ here. due_since log here.1 ≡ Some here.0) ((place, id) ∷ later) = subst (AllByRecursion (λ here. due_since log here.1 ≡ Some here.0)) is (waiting_since log) in
    let rise : RisesFrom 0 ((place, id) ∷ later) = subst (RisesFrom 0) is (kept_rise (is_since log) 0 (urged log) (urged_rise 0 log)) in
    let others : (q : List ℕ) → bytes_eq q id ≡ false → due_since (log ++ E.Done id ∷ []) q ≡ due_since log q =
    λ q differs. due_since-more log (E.Done id) q ∙ ap (λ b. if b then None else due_since log q) (turned q id differs) in
    let gone : due_since (log ++ E.Done id ∷ []) id ≡ None = due_since-more log (E.Done id) id ∙ ap (λ b. if b then None else due_since log id) ((bytes_eq-Decides id id).1 refl) in
    waiting-done log (E.Done id) id others place refl since.0 gone
    ∙ (ap (filter (λ here. not (eqb here.0 place))) is
    ∙ (ap (λ b. cond (not b) ((place, id) ∷ filter (λ here. not (eqb here.0 place)) later) (filter (λ here. not (eqb here.0 place)) later)) (eq-eqb place place refl)
    ∙ none_out place (suc place) later (omega arith) rise.1))

next_due : (log : List Event) (id : List ℕ) (later : List (List ℕ)) → due_ids log ≡ id ∷ later → due_ids (log ++ E.Done id ∷ []) ≡ later
next_due log id later is =
    elim (waiting log) as (λ w. waiting log ≡ w → map (λ here. here.1) w ≡ id ∷ later → due_ids (log ++ E.Done id ∷ []) ≡ later) [
      | [] ↦ λ whole none. cc
      | here ∷ others ↦ λ whole listed. ap (λ x. due_ids (log ++ E.Done x ∷ [])) (sym (heads listed)) ∙ (ap (map (λ h. h.1)) (next_waiting log here.0 here.1 others whole) ∙ tails listed)
    ] refl is

events_done : (basis : Basis) (ids : List (List ℕ)) → events basis (map done ids) ≡ map E.Done ids
events_done basis [] = refl
events_done basis (id ∷ ids) = ap (λ l. E.Done id ∷ l) (events_done basis ids)

-- a disk that is as it was
pub looks_same : (disk disk' : DiskTold) → IsDisk disk → disk' ≡ disk → Looks disk disk'
looks_same disk disk' sound same = subst (λ d. Looks disk d) (sym same) (Looks-none disk sound)

-- whether a held crash is due, by what the ledger says of its number
pub due_by : (ledger : LedgerState) (id : List ℕ) (number : ℕ) (filed : Filed) (standing : Standing) (due : Bool) → IsHeldAs ledger id number → slice_get ledger.crashes number ≡ Some filed → standing ≡ standing_of ledger.log filed.id
    → is_some standing.due_since ≡ due → is_due ledger.log id ≡ due
due_by ledger id number filed standing due known at is test =
    let own : id ≡ filed.id = sym known.id_is ∙ ap (λ o. option_map_or (λ f. f.id) o []) at in
    ap (λ x. is_some (due_since ledger.log x)) own ∙ (ap (λ s. is_some s.due_since) (sym is) ∙ test)

-- ---- turns one after another

with_none : (state : State) → state ≡ with_done state []
with_none state = ap (λ l. record state { log = l }) (sym (append-nil state.log))

pub no_turn : (basis : Basis) (state : State) → IsTurned basis state 0 state
no_turn basis state = record { few = omega arith; after_is = with_none state; left = refl }

pub one_turn : (basis : Basis) (state : State) (turns : ℕ) (between after : State) (id : List ℕ) → IsTurned basis state turns between → IsDueAt (events basis between.log) 0 id → after ≡ with_done between (id ∷ []) → IsTurned basis state (turns + 1) after
one_turn basis state turns between after id so_far at is =
    let due : List (List ℕ) = due_of basis state in
    let place : slice_get due turns ≡ Some id = sym (drop_front turns due) ∙ (ap (λ l. slice_get l 0) (sym so_far.left) ∙ at) in
    let within : turns < length due = slice_get_within due turns id place in
    let whole : (later : List (List ℕ)) × (due_of basis between ≡ id ∷ later) = first_of (due_of basis between) id at in
    let same_log : with_done between (id ∷ []) ≡ with_done state (take (turns + 1) due) =
    ap (λ s. with_done s (id ∷ [])) so_far.after_is
    ∙ ap (λ l. record state { log = l }) (append_assoc state.log (map done (take turns due)) (done id ∷ []) ∙ ap (λ l. state.log ++ l) (sym (map-append done (take turns due) (id ∷ [])) ∙ ap (map done) (sym (take_next turns due id place) ∙ ap (λ n. take n due) (sym (add-one turns))))) in
    let rest : due_of basis after ≡ whole.0 = ap (λ s. due_of basis s) is ∙ (ap due_ids (events-more basis between.log (done id)) ∙ next_due (events basis between.log) id whole.0 whole.1) in
    record { few = omega (arith, within); after_is = is ∙ same_log; left = rest ∙ (sym (ap (drop 1) whole.1) ∙ (ap (drop 1) so_far.left ∙ drop-drop 1 turns due)) }

-- while some are left, some crash is due
pub still_some : (basis : Basis) (state : State) (turns : ℕ) (between : State) → IsTurned basis state turns between → turns < length (due_of basis state) → due_of basis between ≡ [] → ⊥
still_some basis state turns between so_far left none =
    let many : length (drop turns (due_of basis state)) ≡ length (due_of basis state) - turns = length-drop turns (due_of basis state) in
    let zero_left : length (drop turns (due_of basis state)) ≡ 0 = ap length (sym so_far.left ∙ none) in
    omega (arith, many, zero_left, left)

-- a turn that was made while some were left processed the first of these
pub next_turn : (basis : Basis) (state : State) (turns : ℕ) (between after : State) (processed : Option (List ℕ)) (disk disk' : DiskTold) → IsTurned basis state turns between → turns < length (due_of basis state)
    → TurnsTo basis between (Ok processed) after disk disk' → IsTurned basis state (turns + 1) after
next_turn basis state turns between after None disk disk' so_far left turn = absurd (still_some basis state turns between so_far left turn.0)
next_turn basis state turns between after (Some id) disk disk' so_far left turn = one_turn basis state turns between after id so_far turn.0 turn.1

module _ {basis : Basis} {limits : Limits} {ledger : LedgerState} {rows : List (ℕ × List Cell)} {pending : Option Pending} {journal : JournalState} {disk : DiskTold} {state : State}
    (stands : Stands basis limits ledger rows pending journal disk state) where
  events_are : ledger.log ≡ events basis state.log
  events_are = stands.holds.events_are

  pub idle_is : (id : List ℕ) (due : Bool) → is_due ledger.log id ≡ due → is_due (events basis state.log) id ≡ due
  idle_is id due is = ap (λ l. is_due l id) (sym stands.holds.events_are) ∙ is

  pub due_count_is : length (due_ids ledger.log) ≡ length (due_of basis state)
  due_count_is = ap (λ l. length (due_ids l)) stands.holds.events_are

  -- the tables once a due crash has its row
  pub stands_done : (number : ℕ) (row : List Cell) (room : ℕ) → number < length ledger.crashes → is_due ledger.log (id_of ledger number) ≡ true
      → (IsTrue basis.is_told → option_map basis.row_of (raw_of state.log (id_of ledger number)) ≡ Some row)
      → Stands basis limits (with_event (record ledger { room = room }) (E.Done (id_of ledger number))) (with_row (number, row) rows) pending journal disk (with_done state (id_of ledger number ∷ []))
  stands_done number row room within due is_row =
      let roomy : Stands basis limits (record ledger { room = room }) rows pending journal disk state = stands_room room stands in
      let is : is_due (events basis state.log) (id_of ledger number) ≡ true = idle_is (id_of ledger number) true due in
      stands_behind roomy (done (id_of ledger number)) (done_quiet (id_of ledger number)) (with_row (number, row) rows) is
      (done_rows basis state.log (record ledger { room = room }) rows stands.legal.log roomy.holds number row within (due_held (events basis state.log) (id_of ledger number) stands.legal.log.events_legal is) is_row)

  pub stands_finished : (number : ℕ) (row : List Cell) (roomy after : LedgerState) (rows' : List (ℕ × List Cell)) → roomy ≡ record ledger { room = roomy.room } → after ≡ with_event roomy (E.Done (id_of roomy number))
      → rows' ≡ with_row (number, row) rows → number < length ledger.crashes → is_due ledger.log (id_of ledger number) ≡ true → (IsTrue basis.is_told → option_map basis.row_of (raw_of state.log (id_of ledger number)) ≡ Some row)
      → Stands basis limits after rows' pending journal disk (with_done state (id_of ledger number ∷ []))
  stands_finished number row roomy after rows' same is rows_is within due is_row =
      subst (λ r. Stands basis limits after r pending journal disk (with_done state (id_of ledger number ∷ []))) (sym rows_is)
      (subst (λ l. Stands basis limits l (with_row (number, row) rows) pending journal disk (with_done state (id_of ledger number ∷ []))) (sym (is ∙ ap (λ l. with_event l (E.Done (id_of l number))) same))
      (stands_done number row roomy.room within due is_row))

  -- the tables once the service is stopped
  pub stands_stopped : (room : ℕ) → has_stop ledger.log ≡ false → Stands basis limits (with_event (record ledger { room = room }) E.Stopped) rows pending journal disk (record state { log = state.log ++ stop ∷ [] })
  stands_stopped room none =
      let roomy : Stands basis limits (record ledger { room = room }) rows pending journal disk state = stands_room room stands in
      stands_behind roomy stop stop_quiet rows (ap not (ap has_stop (sym stands.holds.events_are) ∙ none))
      (stop_rows basis state.log (record ledger { room = room }) rows stands.legal.log roomy.holds)

  pub stands_stopping : (roomy after : LedgerState) → roomy ≡ record ledger { room = roomy.room } → after ≡ with_event roomy E.Stopped → has_stop ledger.log ≡ false
      → Stands basis limits after rows pending journal disk (record state { log = state.log ++ stop ∷ [] })
  stands_stopping roomy after same is none =
      subst (λ l. Stands basis limits l rows pending journal disk (record state { log = state.log ++ stop ∷ [] })) (sym (is ∙ ap (λ l. with_event l E.Stopped) same)) (stands_stopped roomy.room none)

  module _ (disk' : DiskTold) (looks : Looks disk disk') where
    -- ---- a turn

    abbrev pub turn_reply : Result (Option (List ℕ)) Refusal → Reply
    turn_reply (Ok processed) = R.Turned processed
    turn_reply (Err refusal) = R.Refused refusal

    -- a command that processed these crashes
    processes : (command : Command) (reply : Reply) (ids : List (List ℕ)) (after : State) → after ≡ with_done state ids → IsReplyTo command reply → Grows basis (events basis state.log) (doubted basis state) command reply (map E.Done ids) (doubted basis state)
        → (IsStoreFault reply → DiskFailed disk disk') → (IsAltered reply → basis.is_told ≡ false) → (IsTrue basis.is_told → Step basis state command reply after) → Does basis state disk command reply after disk'
    processes command reply ids after is kind grows fault altered step = record {
      kind = kind;
      gains = record {
        piece = map done ids;
        behind = ap (λ s. s.log) is;
        grows = subst (λ (s : State). Grows basis (events basis state.log) (doubted basis state) command reply (events basis (map done ids)) (doubted basis s)) (sym is)
            (subst (λ (p : List Event). Grows basis (events basis state.log) (doubted basis state) command reply p (doubted basis state)) (sym (events_done basis ids)) grows);
      };
      goes_on = looks.goes_on;
      fault = fault;
      altered = altered;
      step = step;
      survives = λ is_told. survives_looking stands disk' after is_told looks;
    }

    module _ (caller : Caller) (may : without caller Operate ≡ None) where
      abbrev T : Command
      T = C.Turn caller

      first_turn : (reply : Reply) (after : State) (id : List ℕ) (later : List (List ℕ)) → due_of basis state ≡ id ∷ later → TurnsFirst state (id ∷ later) reply after → Step basis state (C.Turn caller) reply after
      first_turn reply after id later is first = permitted state (C.Turn caller) reply after _ may (subst (λ d. TurnsFirst state d reply after) (sym is) first)

      pub turn_does : (result : Result (Option (List ℕ)) Refusal) (after : State) → TurnsTo basis state result after disk disk' → Does basis state disk (C.Turn caller) (turn_reply result) after disk'
      turn_does (Ok None) after turns =
          processes (C.Turn caller) (R.Turned None) [] after (turns.1 ∙ with_none state) (may, tt) ((turns.0, refl), refl) (λ never. absurd never) (λ never. absurd never)
          (λ is_told. permitted state (C.Turn caller) (R.Turned None) after _ may (subst (λ d. TurnsFirst state d (R.Turned None) after) (sym turns.0) (refl, turns.1)))
      turn_does (Ok (Some id)) after turns =
          let whole : (later : List (List ℕ)) × (due_of basis state ≡ id ∷ later) = first_of (due_of basis state) id turns.0 in
          processes (C.Turn caller) (R.Turned (Some id)) (id ∷ []) after turns.1 (may, tt) ((turns.0, refl), refl) (λ never. absurd never) (λ never. absurd never)
          (λ is_told. first_turn (R.Turned (Some id)) after id whole.0 whole.1 (inl (refl, turns.1)))
      turn_does (Err F.StoreFault) after turns =
          let whole : (id : List ℕ) × (later : List (List ℕ)) × (due_of basis state ≡ id ∷ later) = some_first (due_of basis state) turns.0 in
          processes (C.Turn caller) (R.Refused F.StoreFault) [] after (turns.2 ∙ with_none state) (may, tt) ((turns.0, refl), refl) (λ _. turns.1) (λ never. absurd never)
          (λ is_told. first_turn (R.Refused F.StoreFault) after whole.0 whole.1 whole.2 (inr (inr (refl, (refl, turns.2)))))
      turn_does (Err (F.Altered id)) after turns =
          processes (C.Turn caller) (R.Refused (F.Altered id)) [] after (turns.2 ∙ with_none state) (may, tt) ((turns.0, refl), refl) (λ never. absurd never) (λ _. turns.1)
          (λ is_told. absurd (true_is_not_false (sym is_told ∙ turns.1)))
      turn_does (Err F.NoMemory) after turns =
          let whole : (id : List ℕ) × (later : List (List ℕ)) × (due_of basis state ≡ id ∷ later) = some_first (due_of basis state) turns.0 in
          processes (C.Turn caller) (R.Refused F.NoMemory) [] after (turns.1 ∙ with_none state) (may, tt) ((turns.0, refl), refl) (λ never. absurd never) (λ never. absurd never)
          (λ is_told. first_turn (R.Refused F.NoMemory) after whole.0 whole.1 whole.2 (inr (inl (refl, turns.1))))
      turn_does (Err _) after turns = absurd turns

      -- ---- a drain

      pub drained : (turns count : ℕ) (after : State) → turns ≡ count → count ≡ length (due_ids ledger.log) → IsTurned basis state turns after → Does basis state disk (C.Drain caller) (R.Drained count) after disk'
      drained turns count after same listed made =
          let all : count ≡ length (due_of basis state) = listed ∙ due_count_is in
          let turned : IsTurned basis state count after = subst (λ n. IsTurned basis state n after) same made in
          let whole : take count (due_of basis state) ≡ due_of basis state = ap (λ n. take n (due_of basis state)) all ∙ take_all (length (due_of basis state)) (due_of basis state) (omega arith) in
          let is : after ≡ with_done state (due_of basis state) = turned.after_is ∙ ap (with_done state) whole in
          processes (C.Drain caller) (R.Drained count) (due_of basis state) after is (may, tt) ((all, refl), refl) (λ never. absurd never) (λ never. absurd never)
          (λ is_told. permitted state (C.Drain caller) (R.Drained count) after _ may (all, is))

      module _ (turns : ℕ) (between after : State) (turned : IsTurned basis state turns between) where
        -- some of the due crashes weren't reached
        some_left : 0 < length (due_of basis between) → turns < length (due_of basis state)
        some_left some =
            let many : length (drop turns (due_of basis state)) ≡ length (due_of basis state) - turns = length-drop turns (due_of basis state) in
            let same : length (due_of basis between) ≡ length (drop turns (due_of basis state)) = ap length turned.left in
            omega (arith, many, same, some)

        after_some : after ≡ between → after ≡ with_done state (take turns (due_of basis state))
        after_some same = same ∙ turned.after_is

        pub drain_stopped : (refusal : Refusal) (middle : DiskTold) → GoesOn disk middle → TurnsTo basis between (Err refusal) after middle disk' → Does basis state disk (C.Drain caller) (R.Refused refusal) after disk'
        drain_stopped F.StoreFault middle goes_on stopped =
            processes (C.Drain caller) (R.Refused F.StoreFault) (take turns (due_of basis state)) after (after_some stopped.2) (may, tt) ((turns, some_left stopped.0, refl), refl)
            (λ _. failed_later disk middle disk' goes_on stopped.1) (λ never. absurd never)
            (λ is_told. permitted state (C.Drain caller) (R.Refused F.StoreFault) after _ may (turns, some_left stopped.0, after_some stopped.2))
        drain_stopped (F.Altered id) middle goes_on stopped =
            processes (C.Drain caller) (R.Refused (F.Altered id)) (take turns (due_of basis state)) after (after_some stopped.2) (may, tt)
            ((turns, sym (drop_front turns (due_of basis state)) ∙ (ap (λ l. slice_get l 0) (sym turned.left) ∙ stopped.0), refl), refl) (λ never. absurd never) (λ _. stopped.1)
            (λ is_told. absurd (true_is_not_false (sym is_told ∙ stopped.1)))
        drain_stopped F.NoMemory middle goes_on stopped =
            processes (C.Drain caller) (R.Refused F.NoMemory) (take turns (due_of basis state)) after (after_some stopped.1) (may, tt) ((turns, some_left stopped.0, refl), refl) (λ never. absurd never) (λ never. absurd never)
            (λ is_told. permitted state (C.Drain caller) (R.Refused F.NoMemory) after _ may (turns, some_left stopped.0, after_some stopped.1))
        drain_stopped _ middle goes_on stopped = absurd stopped

    -- ---- without the permission

    pub turn_forbidden : (caller : Caller) → without caller Operate ≡ Some Operate → Does basis state disk (C.Turn caller) (R.Refused (F.NoPermission Operate)) state disk'
    turn_forbidden caller lacks =
        stays stands disk' looks (C.Turn caller) (R.Refused (F.NoPermission Operate)) lacks ((tt, refl), refl) (λ never. absurd never) (λ never. absurd never)
        (λ is_told. forbidden state (C.Turn caller) Operate state _ lacks refl)

    pub drain_forbidden : (caller : Caller) → without caller Operate ≡ Some Operate → Does basis state disk (C.Drain caller) (R.Refused (F.NoPermission Operate)) state disk'
    drain_forbidden caller lacks =
        stays stands disk' looks (C.Drain caller) (R.Refused (F.NoPermission Operate)) lacks (refl, refl) (λ never. absurd never) (λ never. absurd never)
        (λ is_told. forbidden state (C.Drain caller) Operate state _ lacks refl)

    pub stop_forbidden : (caller : Caller) → without caller Operate ≡ Some Operate → Does basis state disk (C.Stop caller) (R.Refused (F.NoPermission Operate)) state disk'
    stop_forbidden caller lacks =
        stays stands disk' looks (C.Stop caller) (R.Refused (F.NoPermission Operate)) lacks (refl, refl) (λ never. absurd never) (λ never. absurd never)
        (λ is_told. forbidden state (C.Stop caller) Operate state _ lacks refl)

    -- ---- the stop

    module _ (caller : Caller) (may : without caller Operate ≡ None) where
      pub stop_no_memory : Does basis state disk (C.Stop caller) (R.Refused F.NoMemory) state disk'
      stop_no_memory =
          stays stands disk' looks (C.Stop caller) (R.Refused F.NoMemory) (may, tt) (refl, refl) (λ never. absurd never) (λ never. absurd never)
          (λ is_told. permitted state (C.Stop caller) (R.Refused F.NoMemory) state _ may (inl (refl, refl)))

      pub stopped_before : has_stop ledger.log ≡ true → Does basis state disk (C.Stop caller) R.Stopping state disk'
      stopped_before is =
          let before : has_stop (events basis state.log) ≡ true = ap has_stop (sym stands.holds.events_are) ∙ is in
          stays stands disk' looks (C.Stop caller) R.Stopping (may, tt) (inl (before, refl), refl) (λ never. absurd never) (λ never. absurd never)
          (λ is_told. permitted state (C.Stop caller) R.Stopping state _ may (inr (refl, ap (λ b. if b then state else record state { log = state.log ++ stop ∷ [] }) (sym before))))

      pub stopped_now : has_stop ledger.log ≡ false → Does basis state disk (C.Stop caller) R.Stopping (record state { log = state.log ++ stop ∷ [] }) disk'
      stopped_now is =
          let before : has_stop (events basis state.log) ≡ false = ap has_stop (sym stands.holds.events_are) ∙ is in
          record {
            kind = (may, tt);
            gains = record { piece = stop ∷ []; behind = refl; grows = (inr (before, refl), refl) };
            goes_on = looks.goes_on;
            fault = λ never. absurd never;
            altered = λ never. absurd never;
            step = λ is_told. permitted state (C.Stop caller) R.Stopping (record state { log = state.log ++ stop ∷ [] }) _ may (inr (refl, ap (λ b. if b then state else record state { log = state.log ++ stop ∷ [] }) (sym before)));
            survives = λ is_told. survives_looking stands disk' (record state { log = state.log ++ stop ∷ [] }) is_told looks;
          }

    -- ---- a fetch

    module _ (id : List ℕ) where
      if_due : (A B : Type 0) → is_due (events basis state.log) id ≡ true → A → IfElse (is_due (events basis state.log) id) A B
      if_due A B due a = subst (λ b. IfElse b A B) (sym due) a

      if_idle : (A B : Type 0) → is_due (events basis state.log) id ≡ false → B → IfElse (is_due (events basis state.log) id) A B
      if_idle A B idle b = subst (λ c. IfElse c A B) (sym idle) b

      pub fetch_absent : is_held ledger.log id ≡ false → Does basis state disk (C.Fetch id) (R.Refused F.NoCrash) state disk'
      fetch_absent gone =
          let unheld : is_held (events basis state.log) id ≡ false = held_is stands id false gone in
          stays stands disk' looks (C.Fetch id) (R.Refused F.NoCrash) (refl, tt) (ap not unheld, (refl, refl)) (λ never. absurd never) (λ never. absurd never)
          (λ is_told. if_idle _ _ (unheld_idle (events basis state.log) id stands.legal.log.events_legal unheld) (ap (λ b. if b then R.Fetched None else R.Refused F.NoCrash) (sym unheld), refl))

      pub fetch_idle : is_held ledger.log id ≡ true → is_due ledger.log id ≡ false → Does basis state disk (C.Fetch id) (R.Fetched None) state disk'
      fetch_idle there none =
          let held : is_held (events basis state.log) id ≡ true = held_is stands id true there in
          let idle : is_due (events basis state.log) id ≡ false = idle_is id false none in
          stays stands disk' looks (C.Fetch id) (R.Fetched None) (refl, tt) (ap (λ b. b && not (is_due (events basis state.log) id)) held ∙ ap not idle, (refl, refl)) (λ never. absurd never) (λ never. absurd never)
          (λ is_told. if_idle _ _ idle (ap (λ b. if b then R.Fetched None else R.Refused F.NoCrash) (sym held), refl))

      module _ (waits : is_due ledger.log id ≡ true) where
        due : is_due (events basis state.log) id ≡ true
        due = idle_is id true waits

        fetch_failed : (refusal : Refusal) → IsRead basis state.log id (Err refusal) disk disk' → Does basis state disk (C.Fetch id) (R.Refused refusal) state disk'
        fetch_failed F.StoreFault failed =
            stays stands disk' looks (C.Fetch id) (R.Refused F.StoreFault) (refl, tt) (due, (refl, refl)) (λ _. failed) (λ never. absurd never)
            (λ is_told. if_due _ _ due (inr (inr (refl, (refl, refl)))))
        fetch_failed (F.Altered other) altered =
            stays stands disk' looks (C.Fetch id) (R.Refused (F.Altered other)) (refl, altered.0) (due, (refl, refl)) (λ never. absurd never) (λ _. altered.1)
            (λ is_told. absurd (true_is_not_false (sym is_told ∙ altered.1)))
        fetch_failed F.NoMemory wanted =
            stays stands disk' looks (C.Fetch id) (R.Refused F.NoMemory) (refl, tt) (due, (refl, refl)) (λ never. absurd never) (λ never. absurd never)
            (λ is_told. if_due _ _ due (inr (inl (refl, refl))))
        fetch_failed _ never = absurd never

        pub fetch_unread : (number : ℕ) (refusal : Refusal) → IsHeldAs ledger id number → IsRead basis state.log (id_of ledger number) (Err refusal) disk disk' → Does basis state disk (C.Fetch id) (R.Refused refusal) state disk'
        fetch_unread number refusal known read = fetch_failed refusal (subst (λ x. IsRead basis state.log x (Err refusal) disk disk') known.id_is read)

        pub fetched : (number : ℕ) (raw : RawCrash) → IsHeldAs ledger id number → IsRead basis state.log (id_of ledger number) (Ok raw) disk disk' → Does basis state disk (C.Fetch id) (R.Fetched (Some raw)) state disk'
        fetched number raw known read =
            let is : IsRead basis state.log id (Ok raw) disk disk' = subst (λ x. IsRead basis state.log x (Ok raw) disk disk') known.id_is read in
            stays stands disk' looks (C.Fetch id) (R.Fetched (Some raw)) (refl, is.0) (due, (refl, refl)) (λ never. absurd never) (λ never. absurd never)
            (λ is_told. if_due _ _ due (inl (is.1 is_told, refl)))

    -- ---- a finish

    module _ (report : Report) where
      pub finish_idle : (id : List ℕ) → id ≡ report.crash.id → is_due ledger.log id ≡ false → Does basis state disk (C.Finish report) (R.Finished false) state disk'
      finish_idle id same none =
          let idle : is_due (events basis state.log) report.crash.id ≡ false = idle_is report.crash.id false (ap (is_due ledger.log) (sym same) ∙ none) in
          stays stands disk' looks (C.Finish report) (R.Finished false) (refl, tt) ((ap not idle, refl), refl) (λ never. absurd never) (λ never. absurd never)
          (λ is_told. inr (if_idle report.crash.id _ _ idle (refl, refl)))

      pub finish_absent : (id : List ℕ) → id ≡ report.crash.id → is_held ledger.log id ≡ false → Does basis state disk (C.Finish report) (R.Finished false) state disk'
      finish_absent id same gone =
          let unheld : is_held (events basis state.log) report.crash.id ≡ false = held_is stands report.crash.id false (ap (λ x. is_held ledger.log x) (sym same) ∙ gone) in
          finish_idle report.crash.id refl (ap (λ l. is_due l report.crash.id) stands.holds.events_are ∙ unheld_idle (events basis state.log) report.crash.id stands.legal.log.events_legal unheld)

      pub finish_no_memory : Does basis state disk (C.Finish report) (R.Refused F.NoMemory) state disk'
      finish_no_memory =
          stays stands disk' looks (C.Finish report) (R.Refused F.NoMemory) (refl, tt) (refl, refl) (λ never. absurd never) (λ never. absurd never) (λ is_told. inl (refl, refl))

      pub finished : (number : ℕ) → id_of ledger number ≡ report.crash.id → is_due ledger.log (id_of ledger number) ≡ true → Does basis state disk (C.Finish report) (R.Finished true) (with_done state (id_of ledger number ∷ [])) disk'
      finished number same waits =
          let due : is_due (events basis state.log) report.crash.id ≡ true = idle_is report.crash.id true (ap (is_due ledger.log) (sym same) ∙ waits) in
          let is : with_done state (id_of ledger number ∷ []) ≡ with_done state (report.crash.id ∷ []) = ap (λ x. with_done state (x ∷ [])) same in
          processes (C.Finish report) (R.Finished true) (report.crash.id ∷ []) (with_done state (id_of ledger number ∷ [])) is (refl, tt) ((due, refl), refl) (λ never. absurd never) (λ never. absurd never)
          (λ is_told. inr (if_due report.crash.id _ _ due (refl, is)))

      -- the row that a finish puts is that of the log's raw crash
      pub row_finished : (number : ℕ) (row : List Cell) → id_of ledger number ≡ report.crash.id → row ≡ report.row → is_due ledger.log (id_of ledger number) ≡ true
          → (IsTrue basis.is_told → IsTrue (is_due (events basis state.log) report.crash.id) → IsOfLog basis state.log report)
          → IsTrue basis.is_told → option_map basis.row_of (raw_of state.log (id_of ledger number)) ≡ Some row
      row_finished number row same is waits allowed is_told =
          let of_log : IsOfLog basis state.log report = allowed is_told (idle_is report.crash.id true (ap (is_due ledger.log) (sym same) ∙ waits)) in
          ap (λ x. option_map basis.row_of (raw_of state.log x)) same ∙ (ap (option_map basis.row_of) of_log.raw ∙ ap (λ r. Some r) (sym of_log.row ∙ sym is))
