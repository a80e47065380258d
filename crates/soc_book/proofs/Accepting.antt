-- A new crash, as a log accepts it: with its content exactly where the disk tells it.
use Rattle.std.proofs.Common.{◌≡◌, Bool, true, false, not, IsTrue, List, [], ◌∷◌, ◌++◌, Option, Some, None, IfSome, sym, ap, ◌∙◌, refl}
use Rattle.soc_book.proofs.Words.{is_some, if◌then◌else◌, crash_of, Crash, IsCrash, record_of, RawCrash, Entry, accept_kind, was_accepted, Basis, Accepted, Change, Kept, accept, keep, events, IsLegal, entry_of, NewCrash, Tells, IsAcceptanceOf}
use Rattle.soc_book.proofs.Changes.{legal-next}

module _ (basis : Basis) (raw : RawCrash) where
  abbrev told_raw : Bool → Option Crash
  told_raw b = if b then Some (crash_of raw) else None

  abbrev accepted_crash : Accepted
  accepted_crash = record { id = raw.id; raw = told_raw basis.is_told }

  abbrev pub accepted_as : Kept
  accepted_as = accept accepted_crash

  at_told : (P : Option Crash → Type 0) → (IsTrue basis.is_told → P (Some (crash_of raw))) → P None → P (told_raw basis.is_told)
  at_told P some none = elim basis.is_told as (λ b. (IsTrue b → P (Some (crash_of raw))) → P (told_raw b)) [
    | true ↦ λ here. here refl
    | false ↦ λ here. none
  ] some

  is_raw : IsTrue basis.is_told → told_raw basis.is_told ≡ Some (crash_of raw)
  is_raw is_told = ap told_raw is_told

  has_raw : IsTrue basis.is_told → is_some (told_raw basis.is_told) ≡ true
  has_raw is_told = ap (λ (o : Option Crash). is_some o) (is_raw is_told)

  pub accepted_told : IsTrue basis.is_told → accepted_as ≡ accept record { id = raw.id; raw = Some (crash_of raw) }
  accepted_told is_told = ap (λ (o : Option Crash). accept record { id = raw.id; raw = o }) (is_raw is_told)

  pub accepted_is : (new : NewCrash) → Tells new (crash_of raw) → IsAcceptanceOf basis new accepted_crash
  accepted_is new tells = (tells.id, at_told (λ o. IfSome o (λ r. Tells new r × IsTrue basis.is_told)) (λ is_told. (tells, is_told)) tt, has_raw)

  pub accepted_legal : (log : List Change) → IsLegal basis log → was_accepted (events basis log) raw.id ≡ false → IsCrash (crash_of raw) → IsLegal basis (log ++ keep accepted_as ∷ [])
  accepted_legal log legal fresh is = legal-next basis log (keep accepted_as) legal (ap not fresh)
      (is.id, at_told (λ o. IfSome o (λ r. (r.id ≡ raw.id) × IsCrash r)) (λ is_told. (refl, is)) tt) (λ is_told. (has_raw is_told, tt))

  pub accepted_entry : (entry : Entry) → entry ≡ record { kind = accept_kind; body = record_of (crash_of raw) } → IsTrue basis.is_told → entry ≡ entry_of accepted_as
  accepted_entry entry same is_told = same ∙ ap entry_of (sym (accepted_told is_told))
