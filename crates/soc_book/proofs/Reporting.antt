-- The tables once a report is in the log: its row is put where it counts as the crash's processing.
use Rattle.std.proofs.Common.{◌≡◌, ℕ, ◌<◌, Bool, true, false, ◌&&◌, List, [], ◌∷◌, ◌++◌, length, Some, sym, ap, subst, ◌∙◌, refl}
use Rattle.soc_book.proofs.Words.{bytes_eq, if◌then◌else◌, Cell, is_due, is_held, LedgerState, id_of, with_event, with_row, Basis, Change, KeptReport, report, keep, events, is_own, IsLegal, HasRow, HasRows, Holds}
use Rattle.soc_ledger.specs.declared.event.Event.TheVariants as E
use Rattle.soc_book.proofs.Pushing.{kept_holds, apart}
use Rattle.soc_book.proofs.Rows.{row_counts, row_idle, row_unreported, rows_put}

module _ (basis : Basis) (log : List Change) (ledger : LedgerState) (rows : List (ℕ × List Cell)) (legal : IsLegal basis log) (holds : Holds basis log ledger rows) (number : ℕ) (within : number < length ledger.crashes)
    (made : KeptReport) (id_is : id_of ledger number ≡ made.id) where
  rows_reported : (b : Bool) → (is_own basis made.digest && is_due (events basis log) made.id) ≡ b → is_held (events basis log) made.id ≡ true
      → HasRows basis (log ++ keep (report made) ∷ []) ledger (if b then with_row (number, made.row) rows else rows)
  rows_reported true is held =
      rows_put basis log (log ++ keep (report made) ∷ []) ledger rows holds.rows_are number made.row within (subst (λ id. HasRow basis (log ++ keep (report made) ∷ []) id (Some made.row)) (sym id_is) (row_counts basis log made is held))
      (λ other less differs. row_unreported basis log made (id_of ledger other) _ (ap (λ id. bytes_eq id (id_of ledger other)) (sym id_is) ∙ apart basis log ledger rows legal holds number other within less differs) (holds.rows_are.each other less))
  rows_reported false is held = record {
    rise = holds.rows_are.rise;
    each = λ other less. row_idle basis log made (id_of ledger other) _ is (holds.rows_are.each other less);
    no_other = holds.rows_are.no_other;
  }

  pub holds_report : (own : Bool) → is_own basis made.digest ≡ own → is_held (events basis log) made.id ≡ true
      → Holds basis (log ++ keep (report made) ∷ []) (with_event ledger (E.Reported (id_of ledger number) own)) (if own && is_due (events basis log) made.id then with_row (number, made.row) rows else rows)
  holds_report own own_is held =
      kept_holds basis log ledger rows legal holds (report made) refl (E.Reported (id_of ledger number) own) (if own && is_due (events basis log) made.id then with_row (number, made.row) rows else rows)
      (ap (λ id. E.Reported id (is_own basis made.digest)) (sym id_is) ∙ ap (λ b. E.Reported (id_of ledger number) b) own_is)
      (rows_reported (own && is_due (events basis log) made.id) (ap (λ b. b && is_due (events basis log) made.id) own_is) held)
