-- What is read of a raw crash where the disk tells it.
use Rattle.std.proofs.Common.{◌≡◌, ◌≢◌, ℕ, false, IsTrue, List, Option, Some, Result, Ok, Err, MatchResult, sym, ap, subst, ◌∙◌, refl}
use Rattle.soc_book.proofs.Words.{slice_get, false_from_ne_true, crash_of, record_text, Crash, IsCrash, record_of, RawCrash, same_crash, Cell, DiskTold, Entry, JournalState, Filed, LedgerState, id_of, IsAt, Means, Limits, Refusal, Basis, raw_of, State, entries_of, kept_of, Pending, Decodes, IsRead, Stands}
use Rattle.soc_journal.specs.declared.error.ReadError.{ReadError}
use Rattle.soc_journal.specs.declared.error.ReadError.TheVariants.{Altered}
use Rattle.soc_desk.specs.declared.desk.Refusal.TheVariants as F
use Rattle.soc_book.proofs.Filing.{IsKnown, id_of-got}
use Rattle.soc_book.proofs.Lookups.{known_at}

-- what the vault's read tells of an entry that stands at the place
abbrev pub GivesAt : DiskTold → JournalState → ℕ → Result (List ℕ) ReadError → Type 0
GivesAt disk journal place result = (entries : List Entry) (doubt : List Entry) (entry : Entry) → Means disk journal entries doubt → IsAt entries place entry
    → MatchResult result (λ body. body ≡ entry.body) (λ error. error ≢ Altered)

module _ {basis : Basis} {limits : Limits} {ledger : LedgerState} {rows : List (ℕ × List Cell)} {pending : Option Pending} {journal : JournalState} {disk : DiskTold} {state : State}
    (stands : Stands basis limits ledger rows pending journal disk state) (number : ℕ) (f : Filed) (there : slice_get ledger.crashes number ≡ Some f) where
  pub known_here : IsTrue basis.is_told → IsKnown (entries_of (kept_of state.log)) state.log f
  known_here is_told = known_at stands is_told number f there

  pub id_here : f.id ≡ id_of ledger number
  id_here = sym (id_of-got ledger number f there)

  -- an entry that doesn't read as one stands on a disk that tells nothing
  pub altered_untold : GivesAt disk journal f.place (Err Altered) → basis.is_told ≡ false
  altered_untold gives = false_from_ne_true basis.is_told (λ is_told. let k = known_here is_told in gives _ _ _ (stands.told is_told).means k.filed.at refl)

  -- what is decoded of a body that was read
  pub decoded : (body bytes : List ℕ) (result : Result RawCrash Refusal) (disk' : DiskTold) → bytes ≡ body → GivesAt disk journal f.place (Ok body) → Decodes f.id bytes result → IsRead basis state.log (id_of ledger number) result disk disk'
  decoded body bytes result disk' same gives is = at result (subst (λ (b : List ℕ). Decodes f.id b result) same is) where
    body_here : (is_told : IsTrue basis.is_told) → body ≡ record_of (known_here is_told).raw
    body_here is_told = let k = known_here is_told in gives _ _ _ (stands.told is_told).means k.filed.at

    found : (raw : RawCrash) → record_text raw ≡ body → IsCrash (crash_of raw) → (is_told : IsTrue basis.is_told) → raw_of state.log (id_of ledger number) ≡ Some (crash_of raw)
    found raw text is is_told =
        let k = known_here is_told in
        ap (λ id. raw_of state.log id) (sym id_here) ∙ (k.is ∙ ap (λ (c : Crash). Some c) (sym (same_crash (crash_of raw) k.raw is k.crash (text ∙ body_here is_told))))

    broken : ((crash : Crash) → IsCrash crash → crash.id ≡ f.id → record_of crash ≡ body → ⊥) → basis.is_told ≡ false
    broken none = false_from_ne_true basis.is_told (λ is_told. let k = known_here is_told in none k.raw k.crash k.id (sym (body_here is_told)))

    at : (r : Result RawCrash Refusal) → Decodes f.id body r → IsRead basis state.log (id_of ledger number) r disk disk'
    at (Ok raw) is = (is.0 ∙ id_here, found raw is.1 is.2)
    at (Err (F.Altered other)) is = (is.0 ∙ id_here, broken is.1)
    at (Err F.NoMemory) is = tt
    at (Err _) is = absurd is
