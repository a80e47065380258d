-- What a book counts of its log.
use Rattle.std.proofs.Common.{◌≡◌, ℕ, suc, Bool, true, IsTrue, List, [], ◌∷◌, length, map, Option, Some, None, refl, sym, ap, ◌∙◌, arith}
use Rattle.soc_book.proofs.Words.{nat_tests, nat_lt, is_some, Caller, Operate, Cell, DiskTold, Looks, Entry, place_behind, JournalState, Means, Event, due_ids, ask_count, held_ids, withdrawal_count, report_count, LedgerState, Limits, Basis, without, Change, Kept, events, State, doubted, entries_of, kept_of, Pending, Does, ArePending, Stands}
use Rattle.std.specs.Prelude.{IsSomeAnd}
use Rattle.soc_desk.specs.declared.desk.Command.TheVariants as C
use Rattle.soc_desk.specs.declared.desk.Counts.{Counts}
use Rattle.soc_desk.specs.declared.desk.Refusal.TheVariants as F
use Rattle.soc_desk.specs.declared.desk.Reply.TheVariants as R
use Rattle.soc_desk.specs.Counts.{counts_with, journal_size}
use Rattle.soc_book.proofs.Readings.{forbidden, permitted, stays}
use Rattle.soc_book.proofs.Standing.{none_pending_of}

-- ---- the doubt, and the journal's size

some_waits : (n : ℕ) → nat_lt 0 (suc n) ≡ true
some_waits n = grind (arith, nat_tests)

-- something waits exactly where something is in doubt
pub waits_in_doubt : (basis : Basis) (log : List Change) (ledger : LedgerState) (pending : Option Pending) (doubt : List Kept) (f : Kept → Event) → ArePending basis log ledger pending doubt
    → is_some pending ≡ nat_lt 0 (length (map f doubt))
waits_in_doubt basis log ledger None [] f are = refl
waits_in_doubt basis log ledger None (first ∷ more) f are = absurd are
waits_in_doubt basis log ledger (Some pending) (first ∷ more) f are = sym (some_waits (length (map f more)))
waits_in_doubt basis log ledger (Some pending) [] f are = absurd (none_pending_of basis log ledger pending are)

some_gives : {A Q : Type 0} {P : A → Type 0} (o : Option A) → ((x : A) → P x → Q) → IsSomeAnd o P → Q
some_gives None f has = absurd has
some_gives (Some x) f has = f x has

gate_is : (disk : DiskTold) (journal : JournalState) (entries doubt : List Entry) → Means disk journal entries doubt → journal.gate ≡ place_behind entries
gate_is disk journal entries [] means = some_gives disk.content (λ bytes rest. rest.gate_stands) means
gate_is disk journal entries (first ∷ more) means = some_gives disk.content (λ bytes doubt. doubt.gate_stands) means

-- ---- the counts

abbrev counts_from : ℕ → ℕ → ℕ → ℕ → ℕ → ℕ → Bool → Counts
counts_from asks crashes due size reports withdrawn in_doubt =
    record { asks = asks; crashes = crashes; due = due; journal_size = size; reports = reports; withdrawn = withdrawn; in_doubt = in_doubt }

pub counts_are : (log doubt : List Event) (counts : Counts) → counts.asks ≡ ask_count log → counts.crashes ≡ length (held_ids log) → counts.due ≡ length (due_ids log)
    → counts.reports ≡ report_count log → counts.withdrawn ≡ withdrawal_count log → counts.in_doubt ≡ nat_lt 0 (length doubt)
    → counts ≡ counts_with log doubt counts.journal_size
counts_are log doubt counts asks crashes due reports withdrawn in_doubt =
    ap (λ n. counts_from n counts.crashes counts.due counts.journal_size counts.reports counts.withdrawn counts.in_doubt) asks
    ∙ (ap (λ n. counts_from (ask_count log) n counts.due counts.journal_size counts.reports counts.withdrawn counts.in_doubt) crashes
    ∙ (ap (λ n. counts_from (ask_count log) (length (held_ids log)) n counts.journal_size counts.reports counts.withdrawn counts.in_doubt) due
    ∙ (ap (λ n. counts_from (ask_count log) (length (held_ids log)) (length (due_ids log)) counts.journal_size n counts.withdrawn counts.in_doubt) reports
    ∙ (ap (λ n. counts_from (ask_count log) (length (held_ids log)) (length (due_ids log)) counts.journal_size (report_count log) n counts.in_doubt) withdrawn
    ∙ ap (λ b. counts_from (ask_count log) (length (held_ids log)) (length (due_ids log)) counts.journal_size (report_count log) (withdrawal_count log) b) in_doubt))))

module _ {basis : Basis} {limits : Limits} {ledger : LedgerState} {rows : List (ℕ × List Cell)} {pending : Option Pending} {journal : JournalState} {disk : DiskTold} {state : State}
    (stands : Stands basis limits ledger rows pending journal disk state) where
  pub size_is : IsTrue basis.is_told → journal.gate ≡ journal_size state.log
  size_is is_told = gate_is disk journal (entries_of (kept_of state.log)) (entries_of state.doubt) (stands.told is_told).means

  module _ (disk' : DiskTold) (looks : Looks disk disk') (caller : Caller) where
    pub counted : (counts : Counts) → without caller Operate ≡ None → counts ≡ counts_with (events basis state.log) (doubted basis state) counts.journal_size
        → (IsTrue basis.is_told → counts.journal_size ≡ journal_size state.log) → Does basis state disk (C.Counts caller) (R.Counted counts) state disk'
    counted counts may is size =
        stays stands disk' looks (C.Counts caller) (R.Counted counts) (may, tt) (is, (refl, refl)) (λ never. absurd never) (λ never. absurd never)
        (λ is_told. permitted state (C.Counts caller) (R.Counted counts) state _ may
        (ap R.Counted (is ∙ ap (counts_with (events basis state.log) (doubted basis state)) (size is_told)), refl))

    pub counts_forbidden : without caller Operate ≡ Some Operate → Does basis state disk (C.Counts caller) (R.Refused (F.NoPermission Operate)) state disk'
    counts_forbidden lacks =
        stays stands disk' looks (C.Counts caller) (R.Refused (F.NoPermission Operate)) lacks (tt, (refl, refl)) (λ never. absurd never) (λ never. absurd never)
        (λ is_told. forbidden state (C.Counts caller) Operate state _ lacks refl)
