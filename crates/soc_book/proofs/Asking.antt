-- What asks and withdrawals decide over a settled log.
use Rattle.std.proofs.Common.{◌≡◌, ℕ, Bool, true, false, not, ◌||◌, IsTrue, List, [], ◌∷◌, ◌++◌, Option, Some, None, Err, sym, ap, subst, ◌∙◌, refl}
use Rattle.soc_book.proofs.Words.{if◌then◌else◌, is_some, Caller, Cell, shows, DiskTold, IsDisk, Looks-none, JournalState, Event, is_due, is_held, has_report, LedgerState, id_of, Command, Limits, Reply, Refusal, Basis, Decision, answers, appends, decide, decide_priority, if_seen, lacked, IsGone, IsReplyTo, Change, ask, withdraw, keep, events, IsLegal, State, settled, Allowed, Pending, Adds, IsDecided, IsHeldAs, IsWritten, product_at, Sees, Stands}
use Rattle.soc_desk.specs.declared.desk.Command.TheVariants as C
use Rattle.soc_desk.specs.declared.desk.Reply.TheVariants as R
use Rattle.soc_desk.specs.declared.desk.Refusal.TheVariants as F
use Rattle.soc_book.proofs.Changes.{legal-next}
use Rattle.soc_book.proofs.Deciding.{says, written_decides}
use Rattle.soc_book.proofs.Readings.{unseen_gone}
use Rattle.soc_book.proofs.Lookups.{held_is, shown_in, unseen_view}
use Rattle.soc_book.proofs.Standing.{allowed_in}

module _ {basis : Basis} {limits : Limits} {ledger : LedgerState} {rows : List (ℕ × List Cell)} {pending : Option Pending} {journal : JournalState} {disk : DiskTold} {log : List Change}
    (stands : Stands basis limits ledger rows pending journal disk (settled log)) where
  abbrev now : List Event
  now = events basis log

  pub allowed : IsTrue basis.is_told → (image : List ℕ) → disk.images image → Allowed (settled log) image
  allowed is_told image left = allowed_in stands is_told image left

  pub held_log : (id : List ℕ) (number : ℕ) → IsHeldAs ledger id number → is_held now id ≡ true
  held_log id number held = held_is stands id true held.held

  -- an ask or a withdrawal of a held crash may follow
  pub ask_legal : (id : List ℕ) (number : ℕ) → IsHeldAs ledger id number → IsLegal basis (log ++ keep (ask id) ∷ [])
  ask_legal id number held = legal-next basis log (keep (ask id)) stands.legal.log (held_log id number held) tt (λ is_told. tt)

  pub withdraw_legal : (id : List ℕ) (number : ℕ) → IsHeldAs ledger id number → IsLegal basis (log ++ keep (withdraw id) ∷ [])
  withdraw_legal id number held = legal-next basis log (keep (withdraw id)) stands.legal.log (held_log id number held) tt (λ is_told. tt)

module _ {basis : Basis} {limits : Limits} {ledger : LedgerState} {rows : List (ℕ × List Cell)} {pending : Option Pending} {journal : JournalState} {disk : DiskTold} {log : List Change}
    (stands : Stands basis limits ledger rows pending journal disk (settled log)) (caller : Caller) (id : List ℕ) where
  abbrev before : List Event
  before = events basis log

  -- the decision by what the caller sees
  seen_decides : (decision : Decision) (number : ℕ) → IsHeldAs ledger id number → shows caller.products (product_at ledger number) ≡ true → IsTrue basis.is_told → if_seen basis log caller id decision ≡ decision
  seen_decides decision number held shown_it is_told =
      ap (λ b. if b then decision else answers (R.Refused F.NoCrash)) (shown_in stands caller id is_told number (held, shown_it))

  unseen_decides : (decision : Decision) → Sees ledger caller id (Err F.NoCrash) → IsTrue basis.is_told → if_seen basis log caller id decision ≡ answers (R.Refused F.NoCrash)
  unseen_decides decision unseen is_told =
      ap (λ b. if b then decision else answers (R.Refused F.NoCrash)) (ap is_some (unseen_view stands caller id is_told unseen))

  -- ---- crashes that aren't seen

  module _ (sound : IsDisk disk) (command : Command) (decision : Decision) (is : decide basis log command ≡ Some (if_seen basis log caller id decision)) (kind : IsReplyTo command (R.Refused F.NoCrash))
      (adds : IsGone caller id before → Adds basis command (R.Refused F.NoCrash) [] before []) where
    not_seen : Sees ledger caller id (Err F.NoCrash) → IsDecided basis log disk command (R.Refused F.NoCrash) (settled log) disk
    not_seen unseen = says basis log disk disk command (R.Refused F.NoCrash) (Looks-none disk sound) (allowed stands) kind tt (λ never. never) (adds (subst (IsGone caller id) stands.holds.events_are (unseen_gone ledger caller id unseen)))
        (λ is_told. is ∙ ap (λ (d : Decision). Some d) (unseen_decides decision unseen is_told))

    pub refuses : (refusal : Refusal) → Sees ledger caller id (Err refusal)
        → (after : State) × Stands basis limits ledger rows pending journal disk after × IsDecided basis log disk command (R.Refused refusal) after disk
    refuses F.NoCrash unseen = (settled log, stands, not_seen unseen)
    refuses _ never = absurd never

  pub priority_refused : IsDisk disk → (refusal : Refusal) → Sees ledger caller id (Err refusal)
      → (after : State) × Stands basis limits ledger rows pending journal disk after × IsDecided basis log disk (C.Priority caller id) (R.Refused refusal) after disk
  priority_refused sound refusal unseen = refuses sound (C.Priority caller id) (decide_priority basis log id) refl (refl, tt) (λ gone. ((gone, refl), refl)) refusal unseen

  pub reprocess_refused : IsDisk disk → lacked (C.Reprocess caller id) ≡ None → (refusal : Refusal) → Sees ledger caller id (Err refusal)
      → (after : State) × Stands basis limits ledger rows pending journal disk after × IsDecided basis log disk (C.Reprocess caller id) (R.Refused refusal) after disk
  reprocess_refused sound permitted refusal unseen = refuses sound (C.Reprocess caller id) (appends (ask id) (R.Asked true true)) refl (permitted, tt) (λ gone. ((gone, refl), refl)) refusal unseen

  pub withdraw_refused : IsDisk disk → lacked (C.Withdraw caller id) ≡ None → (refusal : Refusal) → Sees ledger caller id (Err refusal)
      → (after : State) × Stands basis limits ledger rows pending journal disk after × IsDecided basis log disk (C.Withdraw caller id) (R.Refused refusal) after disk
  withdraw_refused sound permitted refusal unseen = refuses sound (C.Withdraw caller id) (appends (withdraw id) R.Withdrawn) refl (permitted, tt) (λ gone. ((gone, refl), refl)) refusal unseen

  -- ---- crashes that are seen

  module _ (number : ℕ) (held : IsHeldAs ledger id number) (shown_it : shows caller.products (product_at ledger number) ≡ true) where
    due_now : is_due before id ≡ is_due ledger.log id
    due_now = ap (λ l. is_due l id) (sym stands.holds.events_are)

    reported_now : has_report before id ≡ has_report ledger.log id
    reported_now = ap (λ l. has_report l id) (sym stands.holds.events_are)

    tested : (b : Bool) → b ≡ (is_due ledger.log (id_of ledger number) || has_report ledger.log (id_of ledger number)) → (is_due ledger.log id || has_report ledger.log id) ≡ b
    tested b is = ap (λ x. is_due ledger.log x || has_report ledger.log x) (sym held.id_is) ∙ sym is

    -- it is due, or has a report
    pub priority_passes : IsDisk disk → true ≡ (is_due ledger.log (id_of ledger number) || has_report ledger.log (id_of ledger number)) → IsDecided basis log disk (C.Priority caller id) (R.Asked false false) (settled log) disk
    priority_passes sound done =
        let was : (is_due before id || has_report before id) ≡ true = ap (λ b. b || has_report before id) due_now ∙ (ap (λ b. is_due ledger.log id || b) reported_now ∙ tested true done) in
        says basis log disk disk (C.Priority caller id) (R.Asked false false) (Looks-none disk sound) (allowed stands) (refl, refl) tt (λ never. never) (held_log stands id number held, was, refl, refl)
        (λ is_told. ap (λ (d : Decision). Some d) (seen_decides (decide_priority basis log id) number held shown_it is_told ∙ ap (λ b. if b then answers (R.Asked false false) else appends (ask id) (R.Asked true true)) was))

    -- it is asked for
    pub priority_asks : (disk' : DiskTold) (reply : Reply) (after : State) → false ≡ (is_due ledger.log (id_of ledger number) || has_report ledger.log (id_of ledger number)) → IsWritten basis log disk (ask id) (R.Asked true true) reply after disk'
        → IsDecided basis log disk (C.Priority caller id) reply after disk'
    priority_asks disk' reply after never wrote =
        let not_yet : (is_due before id || has_report before id) ≡ false = ap (λ b. b || has_report before id) due_now ∙ (ap (λ b. is_due ledger.log id || b) reported_now ∙ tested false never) in
        written_decides basis log disk disk' (C.Priority caller id) (ask id) (ask id) (R.Asked true true) (record {
          kind = (refl, refl);
          fault_kind = (refl, tt);
          full_kind = (refl, tt);
          plain = tt;
          no_fault = λ fault. fault;
          adds = (held_log stands id number held, ap not not_yet, refl, refl);
          fault_adds = ((held_log stands id number held, ap not not_yet, refl), refl);
          full_adds = ((held_log stands id number held, ap not not_yet, refl), refl);
        }) (λ is_told. refl)
        (λ is_told. ap (λ (d : Decision). Some d) (seen_decides (decide_priority basis log id) number held shown_it is_told ∙ ap (λ b. if b then answers (R.Asked false false) else appends (ask id) (R.Asked true true)) not_yet))
        reply after wrote

    pub reprocess_asks : (disk' : DiskTold) (reply : Reply) (after : State) → lacked (C.Reprocess caller id) ≡ None → IsWritten basis log disk (ask id) (R.Asked true true) reply after disk'
        → IsDecided basis log disk (C.Reprocess caller id) reply after disk'
    reprocess_asks disk' reply after permitted wrote = written_decides basis log disk disk' (C.Reprocess caller id) (ask id) (ask id) (R.Asked true true) (record {
      kind = (permitted, (refl, refl));
      fault_kind = (permitted, tt);
      full_kind = (permitted, tt);
      plain = tt;
      no_fault = λ fault. fault;
      adds = (held_log stands id number held, refl, refl);
      fault_adds = ((held_log stands id number held, refl), refl);
      full_adds = ((held_log stands id number held, refl), refl);
    }) (λ is_told. refl) (λ is_told. ap (λ (d : Decision). Some d) (seen_decides (appends (ask id) (R.Asked true true)) number held shown_it is_told)) reply after wrote

    pub withdraw_writes : (disk' : DiskTold) (reply : Reply) (after : State) → lacked (C.Withdraw caller id) ≡ None → IsWritten basis log disk (withdraw id) R.Withdrawn reply after disk'
        → IsDecided basis log disk (C.Withdraw caller id) reply after disk'
    withdraw_writes disk' reply after permitted wrote = written_decides basis log disk disk' (C.Withdraw caller id) (withdraw id) (withdraw id) R.Withdrawn (record {
      kind = (permitted, tt);
      fault_kind = (permitted, tt);
      full_kind = (permitted, tt);
      plain = tt;
      no_fault = λ fault. fault;
      adds = (held_log stands id number held, refl, refl);
      fault_adds = ((held_log stands id number held, refl), refl);
      full_adds = ((held_log stands id number held, refl), refl);
    }) (λ is_told. refl) (λ is_told. ap (λ (d : Decision). Some d) (seen_decides (appends (withdraw id) R.Withdrawn) number held shown_it is_told)) reply after wrote
