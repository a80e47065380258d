-- What the commands that read do.
use Rattle.std.proofs.Common.{◌≡◌, ℕ, Bool, true, false, not, ◌&&◌, IsTrue, List, [], ◌∷◌, Option, Some, None, MatchOption, cond, sym, ap, subst, ◌∙◌, refl, inl, inr, ⊎_elim, append-nil}
use Rattle.soc_book.proofs.Words.{is_some, filter, if◌then◌else◌, AllByRecursion, option_map, option_map_or, option_and_then, value_of, crash_of, Crash, RawCrash, Caller, Permission, ViewRawdump, Cell, permission_of_annotation, holds, is_granted, granted_annotations, granted_cells, shows, row_at, DiskTold, Looks, DiskFailed, JournalState, LedgerState, id_of, is_held, has_report, Command, Limits, Refusal, Reply, IsStoreFault, IsAltered, Basis, lacked, without, IfElse, IfPermitted, Refuses, Step, Grows, IsGone, IsReplyTo, events, raw_of, row_in, State, doubted, is_in, seen_of, view_of, shows_all, Pending, Does, IsHeldAs, IsRead, Sees, product_at, HasRow, Stands}
use Rattle.std.specs.Prelude.{Result, Ok, Err}
use Rattle.soc_desk.specs.declared.desk.Command.TheVariants as C
use Rattle.soc_desk.specs.declared.desk.Refusal.TheVariants as F
use Rattle.soc_desk.specs.declared.desk.Reply.TheVariants as R
use Rattle.soc_desk.specs.Reads.{raw_reply, processed_reply, dump_reply, no_crash}
use Rattle.soc_desk.proofs.Views.{true_is_not_false}
use Rattle.soc_book.proofs.Lookups.{held_is, TellsOf, tells_of, shown_view, shown_in, unseen_view, survives_looking}

-- ---- permissions

pub forbidden : (before : State) (command : Command) (name : Permission) (after : State) (P : Type 0) → lacked command ≡ Some name → after ≡ before → IfPermitted before command (R.Refused (F.NoPermission name)) after P
forbidden before command name after P lacks same =
    let M : Option Permission → Type 0 = λ o. MatchOption o P (λ n. Refuses before (F.NoPermission n) (R.Refused (F.NoPermission name)) after) in
    subst M (sym lacks) (refl, same)

pub permitted : (before : State) (command : Command) (reply : Reply) (after : State) (P : Type 0) → lacked command ≡ None → P → IfPermitted before command reply after P
permitted before command reply after P has p =
    let M : Option Permission → Type 0 = λ o. MatchOption o P (λ n. Refuses before (F.NoPermission n) reply after) in
    subst M (sym has) p

holds_it : (b : Bool) (name : Permission) → (if b then None else Some name) ≡ None → b ≡ true
holds_it true name is = refl
holds_it false name is = cc

-- ---- what is granted

pub all_passing : {A : Type 0} (test : A → Bool) (xs : List A) → AllByRecursion (λ x. test x ≡ true) (filter test xs)
all_passing test [] = tt
all_passing test (x ∷ xs) =
    elim (test x) as (λ b. test x ≡ b → AllByRecursion (λ y. test y ≡ true) (cond b (x ∷ filter test xs) (filter test xs))) [ true ↦ λ is. (is, all_passing test xs) | false ↦ λ is. all_passing test xs ] refl

pub annotations_granted : (caller : Caller) (pairs : List (List ℕ × List ℕ)) → AllByRecursion (λ pair. IsTrue (holds caller.permissions (permission_of_annotation pair.0))) (granted_annotations caller pairs)
annotations_granted caller pairs = all_passing (λ pair. holds caller.permissions (permission_of_annotation pair.0)) pairs

pub cells_granted : (caller : Caller) (row : List Cell) → AllByRecursion (λ cell. IsTrue (is_granted caller cell.field)) (granted_cells caller row)
cells_granted caller row = all_passing (λ cell. is_granted caller cell.field) row

-- what is shown is granted
pub raw_kind : (caller : Caller) (id : List ℕ) (shown pairs : List (List ℕ × List ℕ)) → shown ≡ granted_annotations caller pairs → IsReplyTo (C.Raw caller id) (R.Raw shown)
raw_kind caller id shown pairs is = (refl, subst (AllByRecursion (λ pair. IsTrue (holds caller.permissions (permission_of_annotation pair.0)))) (sym is) (annotations_granted caller pairs))

granted_row : (caller : Caller) (row : List Cell) (o : Option (ℕ × List Cell)) → Some row ≡ option_map (λ s. granted_cells caller s.1) o → AllByRecursion (λ cell. IsTrue (is_granted caller cell.field)) row
granted_row caller row None is = cc
granted_row caller row (Some s) is =
    let same : row ≡ granted_cells caller s.1 = cc in
    subst (AllByRecursion (λ cell. IsTrue (is_granted caller cell.field))) (sym same) (cells_granted caller s.1)

pub row_kind : (caller : Caller) (id : List ℕ) (row : List Cell) (o : Option (ℕ × List Cell)) → Some row ≡ option_map (λ s. granted_cells caller s.1) o → IsReplyTo (C.Processed caller id) (R.Row row)
row_kind caller id row o is = (refl, granted_row caller row o is)

-- ---- crashes that aren't found

pub unseen_gone : (ledger : LedgerState) (caller : Caller) (id : List ℕ) → Sees ledger caller id (Err F.NoCrash) → IsGone caller id ledger.log
unseen_gone ledger caller id sees = λ all.
    ⊎_elim
    (λ (gone : is_held ledger.log id ≡ false). ap not gone)
    (λ (hidden : (number : ℕ) × IsHeldAs ledger id number × (shows caller.products (product_at ledger number) ≡ false)).
    absurd (true_is_not_false (sym (shows_all caller.products (product_at ledger hidden.0) all) ∙ hidden.2)))
    sees

-- ---- commands that change nothing

-- a reply that is neither of these
abbrev pub NoFault : Reply → Type 0
NoFault reply = (IsStoreFault reply → ⊥) × (IsAltered reply → ⊥)

module _ {basis : Basis} {limits : Limits} {ledger : LedgerState} {rows : List (ℕ × List Cell)} {pending : Option Pending} {journal : JournalState} {disk : DiskTold} {state : State}
    (stands : Stands basis limits ledger rows pending journal disk state) (disk' : DiskTold) (looks : Looks disk disk') where
  pub stays : (command : Command) (reply : Reply) → IsReplyTo command reply → Grows basis (events basis state.log) (doubted basis state) command reply [] (doubted basis state) → (IsStoreFault reply → DiskFailed disk disk') → (IsAltered reply → basis.is_told ≡ false)
      → (IsTrue basis.is_told → Step basis state command reply state) → Does basis state disk command reply state disk'
  stays command reply kind grows fault altered step = record {
    kind = kind;
    gains = record { piece = []; behind = sym (append-nil state.log); grows = grows };
    goes_on = looks.goes_on;
    fault = fault;
    altered = altered;
    step = step;
    survives = λ is_told. survives_looking stands disk' state is_told looks;
  }

  -- the disk tells, or it doesn't
  pub untold : {A : Type 0} → basis.is_told ≡ false → IsTrue basis.is_told → A
  untold no_told is_told = absurd (true_is_not_false (sym is_told ∙ no_told))

  module _ (caller : Caller) (id : List ℕ) where
    held : (number : ℕ) → IsHeldAs ledger id number → is_held (events basis state.log) id ≡ true
    held number known = held_is stands id true known.held

    -- a crash that isn't found for a caller that sees every product isn't held
    gone_for : Sees ledger caller id (Err F.NoCrash) → IsGone caller id (events basis state.log)
    gone_for sees = subst (IsGone caller id) stands.holds.events_are (unseen_gone ledger caller id sees)

    -- what was read of a number was read of its id
    pub read_at : (number : ℕ) (result : Result RawCrash Refusal) → IsHeldAs ledger id number → IsRead basis state.log (id_of ledger number) result disk disk' → IsRead basis state.log id result disk disk'
    read_at number result known read = subst (λ x. IsRead basis state.log x result disk disk') known.id_is read

    none_of : IsTrue basis.is_told → Sees ledger caller id (Err F.NoCrash) → value_of (view_of basis state.log caller) id ≡ None
    none_of is_told sees = unseen_view stands caller id is_told sees

    in_view : IsTrue basis.is_told → (number : ℕ) → Sees ledger caller id (Ok number) → is_some (value_of (view_of basis state.log caller) id) ≡ true
    in_view is_told number sees = shown_in stands caller id is_told number sees

    -- what the view has, where the raw crash was read
    has_read : (number : ℕ) (raw : RawCrash) → Sees ledger caller id (Ok number) → raw_of state.log id ≡ Some (crash_of raw) → IsTrue basis.is_told
        → value_of (view_of basis state.log caller) id ≡ Some (seen_of caller (crash_of raw) (row_in basis state.log id))
    has_read number raw sees is is_told =
        let told : TellsOf state.log ledger id number = tells_of stands id number is_told sees.0 in
        let same : told.raw ≡ crash_of raw = same_crash (sym told.raw_is ∙ is) in
        shown_view stands caller id number sees.0 told sees.1 ∙ ap (λ crash. Some (seen_of caller crash (row_in basis state.log id))) same
      where
        same_crash : {a b : Crash} → Some a ≡ Some b → a ≡ b
        same_crash e = cc

    -- ---- annotations

    pub raw_unseen : (refusal : Refusal) → Sees ledger caller id (Err refusal) → Does basis state disk (C.Raw caller id) (R.Refused refusal) state disk'
    raw_unseen F.NoCrash sees =
        stays (C.Raw caller id) (R.Refused F.NoCrash) (refl, tt) (gone_for sees, (refl, refl)) (λ never. absurd never) (λ never. absurd never) (λ is_told. inl (ap (λ o. Some (raw_reply o)) (none_of is_told sees), refl))
    raw_unseen _ sees = absurd sees

    pub raw_no_memory : (number : ℕ) → Sees ledger caller id (Ok number) → Does basis state disk (C.Raw caller id) (R.Refused F.NoMemory) state disk'
    raw_no_memory number sees =
        stays (C.Raw caller id) (R.Refused F.NoMemory) (refl, tt) (held number sees.0, (refl, refl)) (λ never. absurd never) (λ never. absurd never) (λ is_told. inr (in_view is_told number sees, inl (refl, refl)))

    raw_failed : (number : ℕ) (refusal : Refusal) → Sees ledger caller id (Ok number) → IsRead basis state.log id (Err refusal) disk disk' → Does basis state disk (C.Raw caller id) (R.Refused refusal) state disk'
    raw_failed number F.StoreFault sees failed =
        stays (C.Raw caller id) (R.Refused F.StoreFault) (refl, tt) (held number sees.0, (refl, refl)) (λ _. failed) (λ never. absurd never) (λ is_told. inr (in_view is_told number sees, inr (refl, (refl, refl))))
    raw_failed number (F.Altered other) sees altered =
        stays (C.Raw caller id) (R.Refused (F.Altered other)) (refl, altered.0) (held number sees.0, (refl, refl)) (λ never. absurd never) (λ _. altered.1) (λ is_told. untold altered.1 is_told)
    raw_failed number F.NoMemory sees wanted = raw_no_memory number sees
    raw_failed number _ sees never = absurd never

    pub raw_unread : (number : ℕ) (refusal : Refusal) → Sees ledger caller id (Ok number) → IsRead basis state.log (id_of ledger number) (Err refusal) disk disk' → Does basis state disk (C.Raw caller id) (R.Refused refusal) state disk'
    raw_unread number refusal sees read = raw_failed number refusal sees (read_at number (Err refusal) sees.0 read)

    pub raw_shown : (number : ℕ) (raw : RawCrash) (pairs : List (List ℕ × List ℕ)) → Sees ledger caller id (Ok number) → IsRead basis state.log (id_of ledger number) (Ok raw) disk disk' → pairs ≡ granted_annotations caller raw.annotations
        → Does basis state disk (C.Raw caller id) (R.Raw pairs) state disk'
    raw_shown number raw pairs sees read is =
        stays (C.Raw caller id) (R.Raw pairs)
        (refl, subst (AllByRecursion (λ pair. IsTrue (holds caller.permissions (permission_of_annotation pair.0)))) (sym is) (annotations_granted caller raw.annotations))
        (held number sees.0, (refl, refl)) (λ never. absurd never) (λ never. absurd never)
        (λ is_told. inl (ap (λ o. Some (raw_reply o)) (has_read number raw sees ((read_at number (Ok raw) sees.0 read).1 is_told) is_told) ∙ ap (λ l. Some (R.Raw l)) (sym is), refl))

    -- ---- reports

    pub processed_unseen : (refusal : Refusal) → Sees ledger caller id (Err refusal) → Does basis state disk (C.Processed caller id) (R.Refused refusal) state disk'
    processed_unseen F.NoCrash sees =
        stays (C.Processed caller id) (R.Refused F.NoCrash) (refl, tt) (gone_for sees, (refl, refl)) (λ never. absurd never) (λ never. absurd never) (λ is_told. inl (ap (λ o. Some (processed_reply o)) (none_of is_told sees), refl))
    processed_unseen _ sees = absurd sees

    pub processed_no_memory : (number : ℕ) → Sees ledger caller id (Ok number) → Does basis state disk (C.Processed caller id) (R.Refused F.NoMemory) state disk'
    processed_no_memory number sees =
        stays (C.Processed caller id) (R.Refused F.NoMemory) (refl, tt) (held number sees.0, (refl, refl)) (λ never. absurd never) (λ never. absurd never) (λ is_told. inr (in_view is_told number sees, inl (refl, refl)))

    -- the row that the store has at a crash's number
    module _ (number : ℕ) (sees : Sees ledger caller id (Ok number)) where
      stored : Option (List Cell)
      stored = option_map (λ s. s.1) (row_at number rows)

      has_it : HasRow basis state.log id (option_map (λ s. s.1) (row_at number rows))
      has_it = subst (λ x. HasRow basis state.log x (option_map (λ s. s.1) (row_at number rows))) sees.0.id_is (stands.holds.rows_are.each number sees.0.within)

      row_told : IsTrue basis.is_told → option_map (λ s. s.1) (row_at number rows) ≡ row_in basis state.log id
      row_told is_told = has_it.told is_told ∙ ap (λ b. if b then row_in basis state.log id else None) (held number sees.0)

      seen_row : IsTrue basis.is_told → processed_reply (value_of (view_of basis state.log caller) id) ≡ option_map_or R.Row (option_map (granted_cells caller) (option_map (λ s. s.1) (row_at number rows))) (R.Refused F.NotProcessed)
      seen_row is_told =
          ap processed_reply (shown_view stands caller id number sees.0 (tells_of stands id number is_told sees.0) sees.1)
          ∙ ap (λ o. option_map_or R.Row (option_map (granted_cells caller) o) (R.Refused F.NotProcessed)) (sym (row_told is_told))

      no_report : (o : Option (ℕ × List Cell)) → None ≡ option_map (λ s. granted_cells caller s.1) o → option_map (λ s. s.1) o ≡ None
      no_report None is = refl
      no_report (Some s) is = cc

      unreported : (h r : Bool) → h ≡ true → false ≡ (h && r) → (h && not r) ≡ true
      unreported true true is e = absurd (true_is_not_false (sym e))
      unreported true false is e = refl
      unreported false r is e = cc

      pub not_processed : None ≡ option_map (λ s. granted_cells caller s.1) (row_at number rows) → Does basis state disk (C.Processed caller id) (R.Refused F.NotProcessed) state disk'
      not_processed is =
          let none : option_map (λ s. s.1) (row_at number rows) ≡ None = no_report (row_at number rows) is in
          stays (C.Processed caller id) (R.Refused F.NotProcessed) (refl, tt)
          (unreported (is_held (events basis state.log) id) (has_report (events basis state.log) id) (held number sees.0) (ap is_some (sym none) ∙ has_it.has), (refl, refl)) (λ never. absurd never) (λ never. absurd never)
          (λ is_told. inl (ap Some (seen_row is_told ∙ ap (λ o. option_map_or R.Row (option_map (granted_cells caller) o) (R.Refused F.NotProcessed)) none), refl))

      a_report : (row : List Cell) (o : Option (ℕ × List Cell)) → Some row ≡ option_map (λ s. granted_cells caller s.1) o → (own : List Cell) × (option_map (λ s. s.1) o ≡ Some own) × (row ≡ granted_cells caller own)
      a_report row None is = cc
      a_report row (Some s) is = (s.1, refl, same_row is) where
        same_row : {a b : List Cell} → Some a ≡ Some b → a ≡ b
        same_row e = cc

      pub row_shown : (row : List Cell) → Some row ≡ option_map (λ s. granted_cells caller s.1) (row_at number rows) → Does basis state disk (C.Processed caller id) (R.Row row) state disk'
      row_shown row is =
          let own = a_report row (row_at number rows) is in
          stays (C.Processed caller id) (R.Row row)
          (refl, subst (AllByRecursion (λ cell. IsTrue (is_granted caller cell.field))) (sym own.2) (cells_granted caller own.0))
          (sym has_it.has ∙ ap is_some own.1, (refl, refl)) (λ never. absurd never) (λ never. absurd never)
          (λ is_told. inl (ap Some (seen_row is_told ∙ ap (λ o. option_map_or R.Row (option_map (granted_cells caller) o) (R.Refused F.NotProcessed)) own.1) ∙ ap (λ r. Some (R.Row r)) (sym own.2), refl))

    -- ---- raw crashes for stacks

    if_seen : (A B : Type 0) → is_in (view_of basis state.log caller) id ≡ true → A → IfElse (is_in (view_of basis state.log caller) id) A B
    if_seen A B seen a = subst (λ b. IfElse b A B) (sym seen) a

    if_unseen : (A B : Type 0) → is_in (view_of basis state.log caller) id ≡ false → B → IfElse (is_in (view_of basis state.log caller) id) A B
    if_unseen A B unseen b = subst (λ c. IfElse c A B) (sym unseen) b

    pub record_unseen : (refusal : Refusal) → Sees ledger caller id (Err refusal) → Does basis state disk (C.Stack caller id) (R.Refused refusal) state disk'
    record_unseen F.NoCrash sees =
        stays (C.Stack caller id) (R.Refused F.NoCrash) (refl, tt) (gone_for sees, (refl, refl)) (λ never. absurd never) (λ never. absurd never)
        (λ is_told. if_unseen _ _ (ap is_some (none_of is_told sees)) (refl, refl))
    record_unseen _ sees = absurd sees

    pub record_no_memory : (number : ℕ) → Sees ledger caller id (Ok number) → Does basis state disk (C.Stack caller id) (R.Refused F.NoMemory) state disk'
    record_no_memory number sees =
        stays (C.Stack caller id) (R.Refused F.NoMemory) (refl, tt) (held number sees.0, (refl, refl)) (λ never. absurd never) (λ never. absurd never)
        (λ is_told. if_seen _ _ (in_view is_told number sees) (inr (inl (refl, refl))))

    record_failed : (number : ℕ) (refusal : Refusal) → Sees ledger caller id (Ok number) → IsRead basis state.log id (Err refusal) disk disk' → Does basis state disk (C.Stack caller id) (R.Refused refusal) state disk'
    record_failed number F.StoreFault sees failed =
        stays (C.Stack caller id) (R.Refused F.StoreFault) (refl, tt) (held number sees.0, (refl, refl)) (λ _. failed) (λ never. absurd never)
        (λ is_told. if_seen _ _ (in_view is_told number sees) (inr (inr (refl, (refl, refl)))))
    record_failed number (F.Altered other) sees altered =
        stays (C.Stack caller id) (R.Refused (F.Altered other)) (refl, altered.0) (held number sees.0, (refl, refl)) (λ never. absurd never) (λ _. altered.1) (λ is_told. untold altered.1 is_told)
    record_failed number F.NoMemory sees wanted = record_no_memory number sees
    record_failed number _ sees never = absurd never

    pub record_unread : (number : ℕ) (refusal : Refusal) → Sees ledger caller id (Ok number) → IsRead basis state.log (id_of ledger number) (Err refusal) disk disk' → Does basis state disk (C.Stack caller id) (R.Refused refusal) state disk'
    record_unread number refusal sees read = record_failed number refusal sees (read_at number (Err refusal) sees.0 read)

    pub recorded : (number : ℕ) (raw : RawCrash) → Sees ledger caller id (Ok number) → IsRead basis state.log (id_of ledger number) (Ok raw) disk disk' → Does basis state disk (C.Stack caller id) (R.Record raw) state disk'
    recorded number raw sees read =
        let is : IsRead basis state.log id (Ok raw) disk disk' = read_at number (Ok raw) sees.0 read in
        stays (C.Stack caller id) (R.Record raw) (refl, is.0) (held number sees.0, (refl, refl)) (λ never. absurd never) (λ never. absurd never)
        (λ is_told. if_seen _ _ (in_view is_told number sees) (inl (is.1 is_told, refl)))

    -- ---- dumps

    module _ (name : List ℕ) where
      pub dump_forbidden : without caller ViewRawdump ≡ Some ViewRawdump → Does basis state disk (C.Dump caller id name) (R.Refused (F.NoPermission ViewRawdump)) state disk'
      dump_forbidden lacks =
          stays (C.Dump caller id name) (R.Refused (F.NoPermission ViewRawdump)) lacks (tt, (refl, refl)) (λ never. absurd never) (λ never. absurd never)
          (λ is_told. forbidden state (C.Dump caller id name) ViewRawdump state _ lacks refl)

      module _ (may : without caller ViewRawdump ≡ None) where
        pub dump_unseen : (refusal : Refusal) → Sees ledger caller id (Err refusal) → Does basis state disk (C.Dump caller id name) (R.Refused refusal) state disk'
        dump_unseen F.NoCrash sees =
            stays (C.Dump caller id name) (R.Refused F.NoCrash) (may, tt) (tt, (refl, refl)) (λ never. absurd never) (λ never. absurd never)
            (λ is_told. permitted state (C.Dump caller id name) (R.Refused F.NoCrash) state _ may (inl (ap (λ o. Some (dump_reply name o)) (none_of is_told sees), refl)))
        dump_unseen _ sees = absurd sees

        pub dump_no_memory : (number : ℕ) → Sees ledger caller id (Ok number) → Does basis state disk (C.Dump caller id name) (R.Refused F.NoMemory) state disk'
        dump_no_memory number sees =
            stays (C.Dump caller id name) (R.Refused F.NoMemory) (may, tt) (held number sees.0, (refl, refl)) (λ never. absurd never) (λ never. absurd never)
            (λ is_told. permitted state (C.Dump caller id name) (R.Refused F.NoMemory) state _ may (inr (in_view is_told number sees, inl (refl, refl))))

        dump_failed : (number : ℕ) (refusal : Refusal) → Sees ledger caller id (Ok number) → IsRead basis state.log id (Err refusal) disk disk' → Does basis state disk (C.Dump caller id name) (R.Refused refusal) state disk'
        dump_failed number F.StoreFault sees failed =
            stays (C.Dump caller id name) (R.Refused F.StoreFault) (may, tt) (held number sees.0, (refl, refl)) (λ _. failed) (λ never. absurd never)
            (λ is_told. permitted state (C.Dump caller id name) (R.Refused F.StoreFault) state _ may (inr (in_view is_told number sees, inr (refl, (refl, refl)))))
        dump_failed number (F.Altered other) sees altered =
            stays (C.Dump caller id name) (R.Refused (F.Altered other)) (may, altered.0) (held number sees.0, (refl, refl)) (λ never. absurd never) (λ _. altered.1) (λ is_told. untold altered.1 is_told)
        dump_failed number F.NoMemory sees wanted = dump_no_memory number sees
        dump_failed number _ sees never = absurd never

        pub dump_unread : (number : ℕ) (refusal : Refusal) → Sees ledger caller id (Ok number) → IsRead basis state.log (id_of ledger number) (Err refusal) disk disk' → Does basis state disk (C.Dump caller id name) (R.Refused refusal) state disk'
        dump_unread number refusal sees read = dump_failed number refusal sees (read_at number (Err refusal) sees.0 read)

        -- the view's reply, where the raw crash was read
        dump_is : (number : ℕ) (raw : RawCrash) → Sees ledger caller id (Ok number) → raw_of state.log id ≡ Some (crash_of raw) → IsTrue basis.is_told
            → dump_reply name (value_of (view_of basis state.log caller) id) ≡ option_map_or R.Dump (value_of raw.dumps name) no_crash
        dump_is number raw sees is is_told =
            ap (dump_reply name) (has_read number raw sees is is_told)
            ∙ ap (λ b. option_map_or R.Dump (option_and_then (λ dumps. value_of dumps name) (if b then Some raw.dumps else None)) no_crash) (holds_it (holds caller.permissions ViewRawdump) ViewRawdump may)

        pub dump_absent : (number : ℕ) (raw : RawCrash) → Sees ledger caller id (Ok number) → IsRead basis state.log (id_of ledger number) (Ok raw) disk disk' → value_of raw.dumps name ≡ None
            → Does basis state disk (C.Dump caller id name) (R.Refused F.NoCrash) state disk'
        dump_absent number raw sees read none =
            stays (C.Dump caller id name) (R.Refused F.NoCrash) (may, tt) (tt, (refl, refl)) (λ never. absurd never) (λ never. absurd never)
            (λ is_told. permitted state (C.Dump caller id name) (R.Refused F.NoCrash) state _ may
            (inl (ap Some (dump_is number raw sees ((read_at number (Ok raw) sees.0 read).1 is_told) is_told ∙ ap (λ o. option_map_or R.Dump o no_crash) none), refl)))

        pub dump_shown : (number : ℕ) (raw : RawCrash) (bytes : List ℕ) → Sees ledger caller id (Ok number) → IsRead basis state.log (id_of ledger number) (Ok raw) disk disk' → value_of raw.dumps name ≡ Some bytes
            → Does basis state disk (C.Dump caller id name) (R.Dump bytes) state disk'
        dump_shown number raw bytes sees read some =
            stays (C.Dump caller id name) (R.Dump bytes) (may, tt) (held number sees.0, (refl, refl)) (λ never. absurd never) (λ never. absurd never)
            (λ is_told. permitted state (C.Dump caller id name) (R.Dump bytes) state _ may
            (inl (ap Some (dump_is number raw sees ((read_at number (Ok raw) sees.0 read).1 is_told) is_told ∙ ap (λ o. option_map_or R.Dump o no_crash) some), refl)))
