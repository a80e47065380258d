-- What each command appends to the log, from its step.
use Rattle.std.proofs.Common.{◌≡◌, ◌≢◌, ◌⊎◌, inl, inr, ℕ, ◌<◌, Bool, true, false, not, ◌&&◌, IsTrue, List, [], ◌∷◌, ◌++◌, length, map, take, Option, Some, None, IfSome, IsSome, IsSomeAnd, MatchOption, sym, ap, subst, ◌∙◌, refl, arith}
use Rattle.std.specs.Prelude.{bytes_eq, is_some, slice_get, if◌then◌else◌, ⊤}
use Rattle.std.specs.Option.{option_map, option_map_or, option_and_then}
use Rattle.std.proofs.lemmas.List.{append-nil, map-append, append_assoc}
use Rattle.soc_base.specs.Names.{value_of}
use Rattle.soc_raw.specs.RawCrash.{crash_of}
use Rattle.soc_raw.specs.Record.{Crash, content_text}
use Rattle.soc_raw.specs.declared.raw_crash.RawCrash.{RawCrash}
use Rattle.soc_schema.specs.declared.caller.Caller.{Caller}
use Rattle.soc_schema.specs.declared.permission.Permission.{Permission}
use Rattle.soc_schema.specs.Permits.{holds}
use Rattle.soc_ledger.specs.declared.event.Event.{Event}
use Rattle.soc_ledger.specs.declared.event.Event.TheVariants as E
use Rattle.soc_ledger.specs.Due.{due_ids, is_due, is_due_at_once}
use Rattle.soc_ledger.specs.Events.{is_held, was_withdrawn, has_stop}
use Rattle.soc_ledger.specs.Legal.{IsLegal as AreLegal}
use Rattle.soc_ledger.specs.Reported.{has_report}
use Rattle.soc_desk.specs.declared.desk.Command.{Command}
use Rattle.soc_desk.specs.declared.desk.Command.TheVariants as C
use Rattle.soc_desk.specs.declared.desk.Reply.{Reply}
use Rattle.soc_desk.specs.declared.desk.Reply.TheVariants as R
use Rattle.soc_desk.specs.declared.desk.Refusal.TheVariants as F
use Rattle.soc_desk.specs.Asks.{Gains}
use Rattle.soc_desk.specs.Basis.{Basis}
use Rattle.soc_desk.specs.Decisions.{Decision, answers, appends, decide, decide_repeated, decide_new, decide_priority, accepting, lacked}
use Rattle.soc_desk.specs.Desk.{IfElse, Refuses, Decides, FailsRead, StepWriting, Fails, StepSearching, with_done, TurnsFirst, TurnsSome, DrainsAll, StepStop, IsFetched, IsRecord, StepCounts, Step}
use Rattle.soc_desk.specs.Grows.{is_new, is_full, is_due_or_reported, Submits, Prioritises, Reprocesses, Withdraws, BehindDoubt, Writes, Turns, processed, Drains, Stops, Finishes, ReadsDump, ReadsHeld, Fetches, IsCounted, Grows}
use Rattle.soc_desk.specs.Laws.{StepsGrow}
use Rattle.soc_desk.specs.Log.{Change, Kept, IsLegal, ask, withdraw, keep, done, stop, accepted_of, event_of, events, raw_of}
use Rattle.soc_desk.specs.Reads.{read_reply, raw_reply, processed_reply, dump_reply}
use Rattle.soc_desk.specs.State.{State, doubted, IsLegalState, settled, Settles, has_room}
use Rattle.soc_desk.specs.View.{Seen, view_of, is_in}
use Rattle.soc_desk.proofs.Found.{AreTold, absent_gone, found_accepted, lost_new, seen_held, seen_row, unseen_gone}

-- ---- pieces

module _ (basis : Basis) (before : State) where
  abbrev ev : List Event
  ev = events basis before.log

  abbrev in_doubt : List Kept → List Event
  in_doubt doubt = map (λ change. event_of basis (keep change)) doubt

  abbrev doubt_now : List Event
  doubt_now = doubted basis before

  -- nothing is appended
  stays : (command : Command) (reply : Reply) (after : State) → after ≡ before → Grows basis ev doubt_now command reply [] doubt_now → Gains basis before command reply after
  stays command reply after same grows = record {
    piece = [];
    behind = ap (λ (s : State). s.log) same ∙ sym (append-nil before.log);
    grows = subst (λ (s : State). Grows basis ev doubt_now command reply [] (doubted basis s)) (sym same) grows;
  }

  -- these crashes were processed
  done_events : (ids : List (List ℕ)) → events basis (map done ids) ≡ map E.Done ids
  done_events [] = refl
  done_events (id ∷ ids) = ap (λ t. E.Done id ∷ t) (done_events ids)

  were_done : (command : Command) (reply : Reply) (after : State) (ids : List (List ℕ)) → after ≡ with_done before ids → Grows basis ev doubt_now command reply (map E.Done ids) doubt_now → Gains basis before command reply after
  were_done command reply after ids same grows =
      let kept : Grows basis ev doubt_now command reply (events basis (map done ids)) doubt_now = subst (λ p. Grows basis ev doubt_now command reply p doubt_now) (sym (done_events ids)) grows in
      record {
        piece = map done ids;
        behind = ap (λ (s : State). s.log) same;
        grows = subst (λ (s : State). Grows basis ev doubt_now command reply (events basis (map done ids)) (doubted basis s)) (sym same) kept;
      }

  -- ---- turns

  pub turns : (caller : Caller) (reply : Reply) (after : State) (due : List (List ℕ)) → due_ids ev ≡ due → TurnsFirst before due reply after → Gains basis before (C.Turn caller) reply after
  turns caller reply after [] is (said, same) = stays (C.Turn caller) reply after same (subst (λ r. Turns ev r []) (sym said) (is, refl), refl)
  turns caller reply after (id ∷ later) is (inl (said, same)) =
      were_done (C.Turn caller) reply after (id ∷ []) same (subst (λ r. Turns ev r (E.Done id ∷ [])) (sym said) (ap (λ l. slice_get l 0) is, refl), refl)
  turns caller reply after (id ∷ later) is (inr (inl (said, same))) =
      stays (C.Turn caller) reply after same (subst (λ r. Turns ev r []) (sym said) (subst (λ l. 0 < length l) (sym is) (omega arith), refl), refl)
  turns caller reply after (id ∷ later) is (inr (inr (reads, (said, same)))) =
      stays (C.Turn caller) reply after same (subst (λ r. Turns ev r []) (sym said) (subst (λ l. 0 < length l) (sym is) (omega arith), refl), refl)

  some_turns : (caller : Caller) (reply : Reply) (after : State) → TurnsSome before (due_ids ev) after
      → ((turns : ℕ) → turns < length (due_ids ev) → Drains ev reply (processed ev turns)) → Gains basis before (C.Drain caller) reply after
  some_turns caller reply after (count, few, same) grows = were_done (C.Drain caller) reply after (take count (due_ids ev)) same (grows count few, refl)

  drains : (caller : Caller) (reply : Reply) (after : State) → DrainsAll before (due_ids ev) reply after → Gains basis before (C.Drain caller) reply after
  drains caller (R.Drained count) after (all, same) = were_done (C.Drain caller) (R.Drained count) after (due_ids ev) same ((all, refl), refl)
  drains caller (R.Refused F.NoMemory) after some = some_turns caller (R.Refused F.NoMemory) after some (λ count few. (count, few, refl))
  drains caller (R.Refused F.StoreFault) after some = some_turns caller (R.Refused F.StoreFault) after some (λ count few. (count, few, refl))
  drains caller _ after never = absurd never

  -- ---- a stop

  stops : (caller : Caller) (reply : Reply) (after : State) (b : Bool) → has_stop ev ≡ b
      → (reply ≡ R.Stopping) × (after ≡ (if b then before else record before { log = before.log ++ stop ∷ [] })) → Gains basis before (C.Stop caller) reply after
  stops caller reply after true is (said, same) = stays (C.Stop caller) reply after same (subst (λ r. Stops ev r []) (sym said) (inl (is, refl)), refl)
  stops caller reply after false is (said, same) =
      record { piece = stop ∷ []; behind = ap (λ (s : State). s.log) same; grows = (subst (λ r. Stops ev r (E.Stopped ∷ [])) (sym said) (inr (is, refl)), ap (λ (s : State). doubted basis s) same) }

  stepped_stop : (caller : Caller) (reply : Reply) (after : State) → StepStop basis before reply after → Gains basis before (C.Stop caller) reply after
  stepped_stop caller reply after (inl (said, same)) = stays (C.Stop caller) reply after same (subst (λ r. Stops ev r []) (sym said) refl, refl)
  stepped_stop caller reply after (inr both) = stops caller reply after (has_stop ev) refl both

  -- ---- fetches and finishes

  fetched : (id : List ℕ) (reply : Reply) (held : Option Crash) → is_due ev id ≡ true → IsFetched held reply → Fetches ev id reply
  fetched id (R.Fetched (Some raw)) held due is = due
  fetched id (R.Fetched None) held due is = absurd is
  fetched id (R.Stored _ _) held due is = absurd is
  fetched id (R.Repeated _) held due is = absurd is
  fetched id (R.Asked _ _) held due is = absurd is
  fetched id R.Withdrawn held due is = absurd is
  fetched id (R.Raw _) held due is = absurd is
  fetched id (R.Row _) held due is = absurd is
  fetched id (R.Dump _) held due is = absurd is
  fetched id (R.Record _) held due is = absurd is
  fetched id (R.Found _) held due is = absurd is
  fetched id (R.Tops _) held due is = absurd is
  fetched id (R.Turned _) held due is = absurd is
  fetched id (R.Drained _) held due is = absurd is
  fetched id (R.Kept _) held due is = absurd is
  fetched id R.Stopping held due is = absurd is
  fetched id (R.Finished _) held due is = absurd is
  fetched id (R.Counted _) held due is = absurd is
  fetched id (R.Refused _) held due is = absurd is

  not_fetched : (id : List ℕ) (held : Bool) → is_held ev id ≡ held → is_due ev id ≡ false → Fetches ev id (if held then R.Fetched None else R.Refused F.NoCrash)
  not_fetched id true is idle = ap (λ b. b && not (is_due ev id)) is ∙ ap (λ b. not b) idle
  not_fetched id false is idle = ap (λ b. not b) is

  fetches : (id : List ℕ) (reply : Reply) (after : State) (b : Bool) → is_due ev id ≡ b
      → IfElse b ((IsFetched (raw_of before.log id) reply × (after ≡ before)) ⊎ Fails before true reply after)
      ((reply ≡ (if is_held ev id then R.Fetched None else R.Refused F.NoCrash)) × (after ≡ before))
      → Gains basis before (C.Fetch id) reply after
  fetches id reply after true is (inl (got, same)) = stays (C.Fetch id) reply after same (fetched id reply (raw_of before.log id) is got, (refl, refl))
  fetches id reply after true is (inr (inl (said, same))) = stays (C.Fetch id) reply after same (subst (λ r. Fetches ev id r) (sym said) is, (refl, refl))
  fetches id reply after true is (inr (inr (reads, (said, same)))) = stays (C.Fetch id) reply after same (subst (λ r. Fetches ev id r) (sym said) is, (refl, refl))
  fetches id reply after false is (said, same) = stays (C.Fetch id) reply after same (subst (λ r. Fetches ev id r) (sym said) (not_fetched id (is_held ev id) refl is), (refl, refl))

  finishes : (command : Command) (id : List ℕ) (reply : Reply) (after : State) (b : Bool) → ((r : Reply) (piece : List Event) → Finishes ev id r piece → Grows basis ev doubt_now command r piece doubt_now) → is_due ev id ≡ b
      → Refuses before F.NoMemory reply after ⊎ IfElse b ((reply ≡ R.Finished true) × (after ≡ with_done before (id ∷ []))) ((reply ≡ R.Finished false) × (after ≡ before))
      → Gains basis before command reply after
  finishes command id reply after b grows is (inl (said, same)) = stays command reply after same (grows reply [] (subst (λ r. Finishes ev id r []) (sym said) refl))
  finishes command id reply after true grows is (inr (said, same)) =
      were_done command reply after (id ∷ []) same (grows reply (E.Done id ∷ []) (subst (λ r. Finishes ev id r (E.Done id ∷ [])) (sym said) (is, refl)))
  finishes command id reply after false grows is (inr (said, same)) =
      stays command reply after same (grows reply [] (subst (λ r. Finishes ev id r []) (sym said) (ap (λ b. not b) is, refl)))

  -- ---- reads

  module _ (caller : Caller) (id : List ℕ) (legal : AreLegal ev) (told : AreTold (accepted_of before.log)) where
    abbrev view : List (List ℕ × Seen)
    view = view_of basis before.log caller

    is_seen : (seen : Seen) → value_of view id ≡ Some seen → is_held ev id ≡ true
    is_seen seen is = seen_held basis before.log id caller (ap is_some is)

    raw_answer : (o : Option Seen) → value_of view id ≡ o → ReadsHeld caller ev id (raw_reply o)
    raw_answer None is = absent_gone basis before.log caller id told is
    raw_answer (Some seen) is = is_seen seen is

    row_answer : (seen : Seen) (row : Option (List _)) → value_of view id ≡ Some seen → seen.row ≡ row → ReadsHeld caller ev id (option_map_or R.Row row (R.Refused F.NotProcessed))
    row_answer seen None is none =
        ap (λ b. b && not (has_report ev id)) (is_seen seen is) ∙ ap (λ b. not b) (sym (seen_row basis before.log caller id seen legal told is) ∙ ap is_some none)
    row_answer seen (Some row) is some =
        ap (λ b. b && has_report ev id) (is_seen seen is) ∙ (sym (seen_row basis before.log caller id seen legal told is) ∙ ap is_some some)

    processed_answer : (o : Option Seen) → value_of view id ≡ o → ReadsHeld caller ev id (processed_reply o)
    processed_answer None is = absent_gone basis before.log caller id told is
    processed_answer (Some seen) is = row_answer seen seen.row is refl

    bytes_answer : (seen : Seen) (bytes : Option (List ℕ)) → value_of view id ≡ Some seen → ReadsDump ev id (option_map_or R.Dump bytes (R.Refused F.NoCrash))
    bytes_answer seen None is = tt
    bytes_answer seen (Some bytes) is = is_seen seen is

    dump_answer : (name : List ℕ) (o : Option Seen) → value_of view id ≡ o → ReadsDump ev id (dump_reply name o)
    dump_answer name None is = tt
    dump_answer name (Some seen) is = bytes_answer seen (option_and_then (λ dumps. value_of dumps name) seen.dumps) is

    -- `Reads` says of a reply what the log has where the view has the crash
    reading : (Reads : Reply → Type 0) → (is_held ev id ≡ true → Reads (R.Refused F.NoMemory)) → (is_held ev id ≡ true → Reads (R.Refused F.StoreFault))
        → (command : Command) (reads : Bool) (said : Reply) (reply : Reply) (after : State) → ((r : Reply) → Reads r → Grows basis ev doubt_now command r [] doubt_now) → read_reply view command ≡ Some said → Reads said
        → ((read_reply view command ≡ Some reply) × (after ≡ before)) ⊎ (IsTrue (is_in view id) × Fails before reads reply after) → Gains basis before command reply after
    reading Reads wants faults command reads said reply after grows here holds (inl (is, same)) =
        let so : said ≡ reply = cc in
        stays command reply after same (grows reply (subst Reads so holds))
    reading Reads wants faults command reads said reply after grows here holds (inr (seen, inl (is, same))) =
        stays command reply after same (grows reply (subst Reads (sym is) (wants (seen_held basis before.log id caller seen))))
    reading Reads wants faults command reads said reply after grows here holds (inr (seen, inr (may, (is, same)))) =
        stays command reply after same (grows reply (subst Reads (sym is) (faults (seen_held basis before.log id caller seen))))

    recorded : (reply : Reply) (held : Option Crash) → is_held ev id ≡ true → IsRecord held reply → ReadsHeld caller ev id reply
    recorded (R.Record raw) held there is = there
    recorded (R.Fetched _) held there is = absurd is
    recorded (R.Stored _ _) held there is = absurd is
    recorded (R.Repeated _) held there is = absurd is
    recorded (R.Asked _ _) held there is = absurd is
    recorded R.Withdrawn held there is = absurd is
    recorded (R.Raw _) held there is = absurd is
    recorded (R.Row _) held there is = absurd is
    recorded (R.Dump _) held there is = absurd is
    recorded (R.Found _) held there is = absurd is
    recorded (R.Tops _) held there is = absurd is
    recorded (R.Turned _) held there is = absurd is
    recorded (R.Drained _) held there is = absurd is
    recorded (R.Kept _) held there is = absurd is
    recorded R.Stopping held there is = absurd is
    recorded (R.Finished _) held there is = absurd is
    recorded (R.Counted _) held there is = absurd is
    recorded (R.Refused _) held there is = absurd is

    not_in : (o : Option Seen) → is_some o ≡ false → o ≡ None
    not_in None is = refl
    not_in (Some seen) is = cc

    -- the record of a crash that the view has
    records : (reply : Reply) (after : State) (b : Bool) → is_in view id ≡ b
        → IfElse b ((IsRecord (raw_of before.log id) reply × (after ≡ before)) ⊎ Fails before true reply after) (Refuses before F.NoCrash reply after)
        → Gains basis before (C.Stack caller id) reply after
    records reply after true is (inl (got, same)) =
        stays (C.Stack caller id) reply after same (recorded reply (raw_of before.log id) (seen_held basis before.log id caller is) got, (refl, refl))
    records reply after true is (inr (inl (said, same))) =
        stays (C.Stack caller id) reply after same (subst (ReadsHeld caller ev id) (sym said) (seen_held basis before.log id caller is), (refl, refl))
    records reply after true is (inr (inr (reads, (said, same)))) =
        stays (C.Stack caller id) reply after same (subst (ReadsHeld caller ev id) (sym said) (seen_held basis before.log id caller is), (refl, refl))
    records reply after false is (said, same) =
        stays (C.Stack caller id) reply after same (subst (ReadsHeld caller ev id) (sym said) (absent_gone basis before.log caller id told (not_in (value_of view id) is)), (refl, refl))

  counting : (caller : Caller) (reply : Reply) (after : State) → StepCounts basis before reply after → Gains basis before (C.Counts caller) reply after
  counting caller reply after (said, same) = stays (C.Counts caller) reply after same (subst (IsCounted ev doubt_now) (sym said) refl, (refl, refl))

  searching : (caller : Caller) (command : Command) (reply : Reply) (after : State) → Grows basis ev doubt_now command reply [] doubt_now → StepSearching basis before caller command reply after → Gains basis before command reply after
  searching caller command reply after grows (inl (is, same)) = stays command reply after same grows
  searching caller command reply after grows (inr (is, same)) = stays command reply after same grows

  -- where the caller lacks a permission, nothing is appended
  permitted : (lack : Option Permission) (command : Command) (reply : Reply) (after : State) (P : Type 0) → ((name : Permission) → Grows basis ev doubt_now command (R.Refused (F.NoPermission name)) [] doubt_now) → (P → Gains basis before command reply after)
      → MatchOption lack P (λ name. Refuses before (F.NoPermission name) reply after) → Gains basis before command reply after
  permitted None command reply after P grows follows here = follows here
  permitted (Some name) command reply after P grows follows (said, same) = stays command reply after same (subst (λ r. Grows basis ev doubt_now command r [] doubt_now) (sym said) (grows name))

  -- ---- commands that write

  -- the events of the changes in doubt
  events_in_doubt : (doubt : List Kept) → events basis (map keep doubt) ≡ in_doubt doubt
  events_in_doubt [] = refl
  events_in_doubt (change ∷ doubt) = ap (λ (x : List Event). event_of basis (keep change) ∷ x) (events_in_doubt doubt)

  -- behind a doubt that was kept, or without one
  behind : (Adds : List Event → List Event → Type 0) (command : Command) (reply : Reply) (after : State) (log : List Change) (own : List Change) (doubt : List Kept)
      → ((piece : List Event) → BehindDoubt ev (in_doubt doubt) piece Adds → Grows basis ev doubt_now command reply piece (doubted basis after)) → Settles before.log doubt log → after.log ≡ log ++ own → Adds (events basis log) (events basis own)
      → Gains basis before command reply after
  behind Adds command reply after log own [] grows settles is adds =
      record { piece = own; behind = is ∙ ap (λ l. l ++ own) settles; grows = grows (events basis own) (subst (λ l. Adds (events basis l) (events basis own)) settles adds) }
  behind Adds command reply after log own (first ∷ more) grows (inl kept) is adds =
      let changes = map keep (first ∷ more) in
      let told = events_in_doubt (first ∷ more) in
      record {
        piece = changes ++ own;
        behind = is ∙ (ap (λ l. l ++ own) kept ∙ append_assoc before.log changes own);
        grows = grows (events basis (changes ++ own))
            (inr (
              events basis own,
              map-append (event_of basis) changes own ∙ ap (λ (x : List Event). x ++ events basis own) told,
              subst (λ l. Adds l (events basis own)) (ap (events basis) kept ∙ (map-append (event_of basis) before.log changes ∙ ap (λ (x : List Event). ev ++ x) told)) adds,
            ));
      }
  behind Adds command reply after log own (first ∷ more) grows (inr dropped) is adds =
      record { piece = own; behind = is ∙ ap (λ l. l ++ own) dropped; grows = grows (events basis own) (inl (subst (λ l. Adds (events basis l) (events basis own)) dropped adds)) }

  legal_settled : (log : List Change) (doubt : List Kept) → IsLegal basis before.log → IsLegal basis (before.log ++ map keep doubt) → Settles before.log doubt log → IsLegal basis log
  legal_settled log [] legal doubtful settles = subst (IsLegal basis) (sym settles) legal
  legal_settled log (first ∷ more) legal doubtful (inl kept) = subst (IsLegal basis) (sym kept) doubtful
  legal_settled log (first ∷ more) legal doubtful (inr dropped) = subst (IsLegal basis) (sym dropped) legal

-- not one of the replies that change nothing, not even the doubt
abbrev IsPlain : Reply → Type 0
IsPlain (R.Refused F.NoMemory) = ⊥
IsPlain (R.Refused (F.NoPermission name)) = ⊥
IsPlain _ = ⊤

plain_writes : (log : List Event) (doubt : List Event) (piece : List Event) (reply : Reply) (after : List Event) (Adds : List Event → List Event → Type 0) → IsPlain reply → BehindDoubt log doubt piece Adds
    → Writes log doubt piece reply after Adds
plain_writes log doubt piece (R.Refused F.NoMemory) after Adds plain behind = absurd plain
plain_writes log doubt piece (R.Refused (F.NoPermission name)) after Adds plain behind = absurd plain
plain_writes log doubt piece (R.Refused F.StoreFault) after Adds plain behind = inr behind
plain_writes log doubt piece _ after Adds plain behind = behind

mapped_some : {A B : Type 0} (f : A → B) (xs : List A) → xs ≢ [] → map f xs ≢ []
mapped_some f [] some = absurd (some refl)
mapped_some f (x ∷ xs) some = λ is. cc

module _ (basis : Basis) (log : List Change) where
  -- each way that a decision may end has P, with what is in doubt afterwards and what it appends
  abbrev Meets : Decision → (Reply → List Event → List Event → Type 0) → Type 0
  Meets (answers said) P = P said [] []
  Meets (appends change written) P =
      P written [] (event_of basis (keep change) ∷ []) × P (R.Refused F.StoreFault) (event_of basis (keep change) ∷ []) [] × P (R.Refused F.JournalFull) [] []

  abbrev Ends : (Reply → List Event → List Event → Type 0) → Reply → State → Type 0
  Ends P reply after = (own : List Change) × (after.log ≡ log ++ own) × P reply (doubted basis after) (events basis own)

  nothing_more : (P : Reply → List Event → List Event → Type 0) (said reply : Reply) (after state : State) → reply ≡ said → after ≡ state → state.log ≡ log → P said (doubted basis state) [] → Ends P reply after
  nothing_more P said reply after state is same here holds = (
    [],
    ap (λ (s : State). s.log) same ∙ (here ∙ sym (append-nil log)),
    subst (λ (s : State). P reply (doubted basis s) []) (sym same) (subst (λ r. P r (doubted basis state) []) (sym is) holds),
  )

  appended : (P : Reply → List Event → List Event → Type 0) (change : Kept) (written reply : Reply) (after : State) (b : Bool)
      → IfElse b (((reply ≡ written) × (after ≡ settled (log ++ keep change ∷ []))) ⊎ ((reply ≡ R.Refused F.StoreFault) × (after ≡ record { log = log; doubt = change ∷ [] })))
      ((reply ≡ R.Refused F.JournalFull) × (after ≡ settled log)) → Meets (appends change written) P → Ends P reply after
  appended P change written reply after true (inl (is, same)) meets = (
    keep change ∷ [],
    ap (λ (s : State). s.log) same,
    subst (λ (s : State). P reply (doubted basis s) (event_of basis (keep change) ∷ [])) (sym same) (subst (λ r. P r [] (event_of basis (keep change) ∷ [])) (sym is) meets.0),
  )
  appended P change written reply after true (inr (is, same)) meets = nothing_more P (R.Refused F.StoreFault) reply after (record { log = log; doubt = change ∷ [] }) is same refl meets.1
  appended P change written reply after false (is, same) meets = nothing_more P (R.Refused F.JournalFull) reply after (settled log) is same refl meets.2

  decided : (P : Reply → List Event → List Event → Type 0) (d : Decision) (reply : Reply) (after : State) → Decides basis log d reply after → Meets d P → Ends P reply after
  decided P (answers said) reply after (is, same) meets = nothing_more P said reply after (settled log) is same refl meets
  decided P (appends change written) reply after ends meets = appended P change written reply after (has_room basis log change) ends meets

  abbrev now : List Event
  now = events basis log

  -- ---- a submission

  module _ (raw : Crash) (told : AreTold (accepted_of log)) where
    abbrev Submitted : Reply → List Event → List Event → Type 0
    Submitted reply after own = Submits basis raw.id reply after now own × IsPlain reply

    held_now : (o : Crash) → raw_of log raw.id ≡ Some o → was_withdrawn now raw.id ≡ false → is_held now raw.id ≡ true
    held_now o is kept = ap (λ b. b && not (was_withdrawn now raw.id)) (found_accepted basis log raw.id o is) ∙ ap (λ b. not b) kept

    repeats : (o : Crash) (b : Bool) → is_held now raw.id ≡ true → Meets (if b then answers (R.Repeated raw.id) else answers (R.Refused (F.OtherContent raw.id))) Submitted
    repeats o true held = ((held, refl, refl), tt)
    repeats o false held = (((held, refl), refl), tt)

    accepts_new : (b : Bool) → is_full basis now ≡ b → is_new now raw.id ≡ true → Meets (if b then answers (R.Refused F.TooManyCrashes) else appends (accepting raw) (R.Stored raw.id (is_due_at_once raw.id))) Submitted
    accepts_new true full new = (((new, full, refl), refl), tt)
    accepts_new false few new =
        let below : not (is_full basis now) ≡ true = ap (λ b. not b) few in
        (((new, below, refl, refl), tt), ((inl (new, below, refl), refl), tt), (((new, below, refl), refl), tt))

    submission : (b : Bool) (o : Option Crash) → was_withdrawn now raw.id ≡ b → raw_of log raw.id ≡ o
        → Meets (if b then answers (R.Refused (F.Withdrawn raw.id)) else option_map_or (decide_repeated raw) o (decide_new basis log raw)) Submitted
    submission true o gone is = (((gone, refl), refl), tt)
    submission false (Some held) kept is = repeats held (bytes_eq (content_text held) (content_text raw)) (held_now held is kept)
    submission false None kept is = accepts_new (is_full basis now) refl (ap (λ b. not b) (lost_new basis log raw.id told is))

  -- ---- asks and withdrawals of crashes that are seen

  module _ (caller : Caller) (id : List ℕ) (told : AreTold (accepted_of log)) where
    abbrev sees : Bool
    sees = is_in (view_of basis log caller) id

    asks_once : (b : Bool) → is_due_or_reported now id ≡ b → is_held now id ≡ true → Meets (if b then answers (R.Asked false false) else appends (ask id) (R.Asked true true)) (λ reply after own. Prioritises caller id reply after now own × IsPlain reply)
    asks_once true before held = ((held, before, refl, refl), tt)
    asks_once false never held =
        let idle : not (is_due_or_reported now id) ≡ true = ap (λ b. not b) never in
        (((held, idle, refl, refl), tt), (((held, idle, refl), refl), tt), (((held, idle, refl), refl), tt))

    prioritised : (b : Bool) → sees ≡ b → Meets (if b then decide_priority basis log id else answers (R.Refused F.NoCrash)) (λ reply after own. Prioritises caller id reply after now own × IsPlain reply)
    prioritised true seen = asks_once (is_due_or_reported now id) refl (seen_held basis log id caller seen)
    prioritised false unseen = (((unseen_gone basis log caller id told unseen, refl), refl), tt)

    reprocessed : (b : Bool) → sees ≡ b → Meets (if b then appends (ask id) (R.Asked true true) else answers (R.Refused F.NoCrash)) (λ reply after own. Reprocesses caller id reply after now own × IsPlain reply)
    reprocessed true seen =
        let held : is_held now id ≡ true = seen_held basis log id caller seen in
        (((held, refl, refl), tt), (((held, refl), refl), tt), (((held, refl), refl), tt))
    reprocessed false unseen = (((unseen_gone basis log caller id told unseen, refl), refl), tt)

    withdrawn : (b : Bool) → sees ≡ b → Meets (if b then appends (withdraw id) R.Withdrawn else answers (R.Refused F.NoCrash)) (λ reply after own. Withdraws caller id reply after now own × IsPlain reply)
    withdrawn true seen =
        let held : is_held now id ≡ true = seen_held basis log id caller seen in
        (((held, refl, refl), tt), (((held, refl), refl), tt), (((held, refl), refl), tt))
    withdrawn false unseen = (((unseen_gone basis log caller id told unseen, refl), refl), tt)

-- ---- every command

module _ (basis : Basis) (before : State) (legal : IsLegalState basis before) (is_told : IsTrue basis.is_told) where
  -- a settled log decides so, and its reply is appended behind a doubt that was kept
  ends_behind : (Adds : Reply → List Event → List Event → List Event → Type 0) (command : Command) (reply : Reply) (after : State) (log : List Change) → Settles before.log before.doubt log
      → ((piece : List Event) → Writes (ev basis before) (doubt_now basis before) piece reply (doubted basis after) (Adds reply (doubted basis after))
      → Grows basis (ev basis before) (doubt_now basis before) command reply piece (doubted basis after))
      → Ends basis log (λ r a own. Adds r a (events basis log) own × IsPlain r) reply after → Gains basis before command reply after
  ends_behind Adds command reply after log settles grows (own, is, (adds, plain)) =
      behind basis before (Adds reply (doubted basis after)) command reply after log own before.doubt
      (λ piece b. grows piece (plain_writes (ev basis before) (doubt_now basis before) piece reply (doubted basis after) (Adds reply (doubted basis after)) plain b)) settles is adds

  abbrev Told : List Change → Type 0
  Told log = AreTold (accepted_of log)

  told_settled : (log : List Change) → Settles before.log before.doubt log → Told log
  told_settled log settles = (legal_settled basis before log before.doubt legal.log legal.doubt settles).told is_told

  -- of a command that writes: what each settled log decides is met by what the command adds
  writing : (Adds : Reply → List Event → List Event → List Event → Type 0) (command : Command) (reply : Reply) (after : State)
      → ((r : Reply) (piece : List Event) (a : List Event) → Writes (ev basis before) (doubt_now basis before) piece r a (Adds r a) → Grows basis (ev basis before) (doubt_now basis before) command r piece a)
      → ((log : List Change) → Settles before.log before.doubt log → IsSomeAnd (decide basis log command) (λ d. Meets basis log d (λ r a own. Adds r a (events basis log) own × IsPlain r)))
      → ((log : List Change) → FailsRead basis log command reply after → (reply ≡ R.Refused F.StoreFault) × (after ≡ settled log) × Adds (R.Refused F.StoreFault) [] (events basis log) [])
      → StepWriting basis before command reply after → Gains basis before command reply after
  writing Adds command reply after grows meets reads step =
      permitted basis before (lacked command) command reply after _ (λ name. grows (R.Refused (F.NoPermission name)) [] (doubt_now basis before) (refl, refl)) (elim [
        | inl (is, same) ↦ stays basis before command reply after same (grows reply [] (doubt_now basis before) (subst (λ r. Writes (ev basis before) (doubt_now basis before) [] r (doubt_now basis before) (Adds r (doubt_now basis before))) (sym is) (refl, refl)))
        | inr (inl (doubt, (is, same))) ↦ stays basis before command reply after same
            (grows reply [] (doubt_now basis before) (subst (λ r. Writes (ev basis before) (doubt_now basis before) [] r (doubt_now basis before) (Adds r (doubt_now basis before))) (sym is) (inl (mapped_some (λ change. event_of basis (keep change)) before.doubt doubt, (refl, refl)))))
        | inr (inr settles) ↦ elim settles.decides [
          | inl decides ↦ decided_so settles.log settles.settles (decide basis settles.log command) decides (meets settles.log settles.settles)
          | inr failed ↦
              let so = reads settles.log failed in
              ends_behind Adds command reply after settles.log settles.settles (λ piece. grows reply piece (doubted basis after))
              (nothing_more basis settles.log (λ r a own. Adds r a (events basis settles.log) own × IsPlain r) (R.Refused F.StoreFault) reply after (settled settles.log) so.0 so.1 refl (so.2, tt))
        ]
      ]) step where
        decided_so : (log : List Change) → Settles before.log before.doubt log → (d : Option Decision) → IsSomeAnd d (λ x. Decides basis log x reply after) → IsSomeAnd d (λ x. Meets basis log x (λ r a own. Adds r a (events basis log) own × IsPlain r))
            → Gains basis before command reply after
        decided_so log settles None decides meets = absurd decides
        decided_so log settles (Some d) decides meets =
            ends_behind Adds command reply after log settles (λ piece. grows reply piece (doubted basis after)) (decided basis log (λ r a own. Adds r a (events basis log) own × IsPlain r) d reply after decides meets)

  submits : (raw : RawCrash) (reply : Reply) (after : State) → StepWriting basis before (C.Submit raw) reply after → Gains basis before (C.Submit raw) reply after
  submits raw reply after step =
      writing (Submits basis raw.id) (C.Submit raw) reply after (λ r piece a w. w)
      (λ log settles. submission basis log (crash_of raw) (told_settled log settles) (was_withdrawn (events basis log) raw.id) (raw_of log raw.id) refl refl)
      (λ log failed. (failed.1, failed.2, (inr (failed.0.0, refl), refl))) step

  prioritises : (caller : Caller) (id : List ℕ) (reply : Reply) (after : State) → StepWriting basis before (C.Priority caller id) reply after → Gains basis before (C.Priority caller id) reply after
  prioritises caller id reply after step =
      writing (Prioritises caller id) (C.Priority caller id) reply after (λ r piece a w. w)
      (λ log settles. prioritised basis log caller id (told_settled log settles) (is_in (view_of basis log caller) id) refl)
      (λ log failed. absurd failed) step

  reprocesses : (caller : Caller) (id : List ℕ) (reply : Reply) (after : State) → StepWriting basis before (C.Reprocess caller id) reply after → Gains basis before (C.Reprocess caller id) reply after
  reprocesses caller id reply after step =
      writing (Reprocesses caller id) (C.Reprocess caller id) reply after (λ r piece a w. w)
      (λ log settles. reprocessed basis log caller id (told_settled log settles) (is_in (view_of basis log caller) id) refl)
      (λ log failed. absurd failed) step

  withdraws : (caller : Caller) (id : List ℕ) (reply : Reply) (after : State) → StepWriting basis before (C.Withdraw caller id) reply after → Gains basis before (C.Withdraw caller id) reply after
  withdraws caller id reply after step =
      writing (Withdraws caller id) (C.Withdraw caller id) reply after (λ r piece a w. w)
      (λ log settles. withdrawn basis log caller id (told_settled log settles) (is_in (view_of basis log caller) id) refl)
      (λ log failed. absurd failed) step

  abbrev view_now : Caller → List (List ℕ × Seen)
  view_now caller = view_of basis before.log caller

  grows : (command : Command) (reply : Reply) (after : State) → Step basis before command reply after → Gains basis before command reply after
  grows (C.Submit raw) reply after step = submits raw reply after step
  grows (C.Priority caller id) reply after step = prioritises caller id reply after step
  grows (C.Reprocess caller id) reply after step = reprocesses caller id reply after step
  grows (C.Withdraw caller id) reply after step = withdraws caller id reply after step
  grows (C.Raw caller id) reply after step =
      reading basis before caller id legal.log.events_legal (legal.log.told is_told) (ReadsHeld caller (ev basis before) id) (λ held. held) (λ held. held) (C.Raw caller id) true (raw_reply (value_of (view_now caller) id)) reply after (λ r holds. (holds, (refl, refl))) refl
      (raw_answer basis before caller id legal.log.events_legal (legal.log.told is_told) (value_of (view_now caller) id) refl) step
  grows (C.Processed caller id) reply after step =
      reading basis before caller id legal.log.events_legal (legal.log.told is_told) (ReadsHeld caller (ev basis before) id) (λ held. held) (λ held. held) (C.Processed caller id) false (processed_reply (value_of (view_now caller) id)) reply after (λ r holds. (holds, (refl, refl))) refl
      (processed_answer basis before caller id legal.log.events_legal (legal.log.told is_told) (value_of (view_now caller) id) refl) step
  grows (C.Dump caller id name) reply after step =
      permitted basis before (lacked (C.Dump caller id name)) (C.Dump caller id name) reply after _ (λ lack. (tt, (refl, refl)))
      (reading basis before caller id legal.log.events_legal (legal.log.told is_told) (ReadsDump (ev basis before) id) (λ held. held) (λ held. held) (C.Dump caller id name) true (dump_reply name (value_of (view_now caller) id)) reply after (λ r holds. (holds, (refl, refl))) refl
      (dump_answer basis before caller id legal.log.events_legal (legal.log.told is_told) name (value_of (view_now caller) id) refl)) step
  grows (C.Stack caller id) reply after step =
      records basis before caller id legal.log.events_legal (legal.log.told is_told) reply after (is_in (view_now caller) id) refl step
  grows (C.Search query) reply after step = searching basis before query.caller (C.Search query) reply after (refl, refl) step
  grows (C.Tops query) reply after step = searching basis before query.caller (C.Tops query) reply after (refl, refl) step
  grows (C.Turn caller) reply after step =
      permitted basis before (lacked (C.Turn caller)) (C.Turn caller) reply after _ (λ lack. ((tt, refl), refl)) (turns basis before caller reply after (due_ids (ev basis before)) refl) step
  grows (C.Drain caller) reply after step =
      permitted basis before (lacked (C.Drain caller)) (C.Drain caller) reply after _ (λ lack. (refl, refl)) (drains basis before caller reply after) step
  grows (C.Stop caller) reply after step =
      permitted basis before (lacked (C.Stop caller)) (C.Stop caller) reply after _ (λ lack. (refl, refl)) (stepped_stop basis before caller reply after) step
  grows (C.Fetch id) reply after step = fetches basis before id reply after (is_due (ev basis before) id) refl step
  grows (C.Finish made) reply after step = finishes basis before (C.Finish made) made.crash.id reply after (is_due (ev basis before) made.crash.id) (λ r piece holds. (holds, refl)) refl step
  grows (C.Counts caller) reply after step =
      permitted basis before (lacked (C.Counts caller)) (C.Counts caller) reply after _ (λ lack. (tt, (refl, refl))) (counting basis before caller reply after) step

pub steps_grow : StepsGrow
steps_grow basis before command reply after is_told legal step = grows basis before legal is_told command reply after step
