-- What a book answers when it is asked for a report, and drained.
use Rattle.std.proofs.Common.{◌≡◌, ℕ, IsTrue, List, [], Ok, Err, refl, sym, subst}
use Rattle.std.specs.Prelude.{Result}
use Rattle.soc_base.proofs.Folk.{none_is_not_some}
use Rattle.soc_schema.specs.declared.caller.Caller.{Caller}
use Rattle.soc_edge.specs.Disk.{DiskTold}
use Rattle.soc_edge.specs.Told.{Told, Writes}
use Rattle.soc_edge.proofs.Told.{Writes-none}
use Rattle.soc_desk.specs.declared.desk.Command.{Command}
use Rattle.soc_desk.specs.declared.desk.Command.TheVariants as C
use Rattle.soc_desk.specs.declared.desk.Refusal.TheVariants as F
use Rattle.soc_desk.specs.declared.desk.Reply.{Reply}
use Rattle.soc_desk.specs.declared.desk.Reply.TheVariants as R
use Rattle.soc_desk.specs.Basis.{Basis}
use Rattle.soc_desk.specs.Desk.{Step}
use Rattle.soc_desk.specs.Log.{Change}
use Rattle.soc_desk.specs.State.{State, settled}
use Rattle.soc_desk.specs.View.{view_of}
use Rattle.soc_book.specs.inner.Does.{Does}
use Rattle.soc_export.specs.declared.ending.ExportEnd.{ExportEnd}
use Rattle.soc_export.specs.declared.ending.RowEnd.{RowEnd}
use Rattle.soc_export.specs.declared.ending.RowEnd.TheVariants as L
use Rattle.soc_export.specs.Ends.{TellsLog}
use Rattle.soc_export.specs.Lines.{drained, export_of, lines_of}
use Rattle.soc_export.specs.inner.Telling.{TellsLines, TellsPiece, TellsReply, drain_end, end_of, piece_in}
use Rattle.soc_export.proofs.RowLines.{writes_none}
use Rattle.soc_export.proofs.Shown.{asked_none, asked_row, asked_stays, drained_log, operator}

-- where the disk tells its content, a command leads to a state that this is so of
abbrev pub Leads : Basis → State → DiskTold → Command → Reply → DiskTold → (State → Type 0) → Type 0
Leads basis state disk command reply disk' Now = (later : State) × Now later × Does basis state disk command reply later disk'

-- nothing is told where memory is wanting
not_told : (before after : Told) (piece : List ℕ) (end : RowEnd) → (end ≡ L.NoMemory) × (after ≡ before) → TellsPiece before after piece end
not_told before after piece end is = subst (TellsPiece before after piece) (sym is.0) is.1

-- nor where there is no row
none_told : (before after : Told) (piece : List ℕ) (end : RowEnd) → piece ≡ [] → (end ≡ L.Written) × (after ≡ before) → TellsPiece before after piece end
none_told before after piece end none is =
    subst (TellsPiece before after piece) (sym is.0) (subst (Writes before after) (sym none) (subst (λ told. Writes before told []) (sym is.1) (Writes-none before)))

module _ (basis : Basis) (state : State) (caller : Caller) (id : List ℕ) (later : State) (before after : Told) (end : RowEnd) where
  abbrev piece : List ℕ
  piece = piece_in (view_of basis state.log caller) id

  -- the row that is told is that of the view
  reply_so : (reply : Reply) → Step basis state (C.Processed caller id) reply later → TellsReply before after reply end → TellsPiece before after piece end
  reply_so (R.Row row) step tells = subst (λ p. TellsPiece before after p end) (sym (asked_row basis state caller id row later step)) tells
  reply_so (R.Refused F.NoCrash) step tells = none_told before after piece end (asked_none basis state caller id F.NoCrash later (λ e. cc) step) tells
  reply_so (R.Refused F.NotProcessed) step tells = none_told before after piece end (asked_none basis state caller id F.NotProcessed later (λ e. cc) step) tells
  reply_so (R.Refused refusal) step tells = not_told before after piece end tells
  reply_so reply step tells = not_told before after piece end tells

module _ (basis : Basis) (state : State) (disk disk' : DiskTold) (told : IsTrue basis.is_told) (Now : State → Type 0) (caller : Caller) (id : List ℕ) (reply : Reply)
    (leads : Leads basis state disk (C.Processed caller id) reply disk' Now) where
  -- the book stands for the same state
  pub still_now : Now state
  still_now = subst Now (asked_stays basis state caller id reply leads.0 (leads.2.step told)) leads.1

  -- and what was told is the row of its view
  pub reply_told : (before after : Told) (end : RowEnd) → TellsReply before after reply end → TellsPiece before after (piece_in (view_of basis state.log caller) id) end
  reply_told before after end = reply_so basis state caller id leads.0 before after end reply (leads.2.step told)

-- a drain leads to the drained log, or nothing was written
abbrev DrainEnds : Basis → List Change → Caller → Told → DiskTold → DiskTold → State → Result (Unit {0}) ExportEnd → Type 0
DrainEnds basis log caller output disk disk' later (Ok over) = IsTrue basis.is_told → later.log ≡ drained basis log
DrainEnds basis log caller output disk disk' later (Err end) = TellsLog basis log caller output output disk disk' end

drain_ends : (basis : Basis) (log : List Change) (caller : Caller) (output : Told) (disk disk' : DiskTold) (later : State) (reply : Reply)
    → Does basis (settled log) disk (C.Drain operator) reply later disk' → DrainEnds basis log caller output disk disk' later (drain_end reply)
drain_ends basis log caller output disk disk' later (R.Drained count) does = λ told. drained_log basis log count later (does.step told)
drain_ends basis log caller output disk disk' later (R.Refused F.StoreFault) does = (refl, does.fault tt)
drain_ends basis log caller output disk disk' later (R.Refused (F.Altered id)) does = (refl, does.altered tt)
drain_ends basis log caller output disk disk' later (R.Refused F.NoMemory) does = λ told. writes_none output (export_of basis log caller)
drain_ends basis log caller output disk disk' later (R.Refused (F.NoPermission name)) does = absurd (none_is_not_some does.kind)
drain_ends basis log caller output disk disk' later reply does = absurd does.kind.1

pub drain_failed : (basis : Basis) (log : List Change) (caller : Caller) (output : Told) (disk disk' : DiskTold) (later : State) (reply : Reply) (end : ExportEnd)
    → Does basis (settled log) disk (C.Drain operator) reply later disk' → drain_end reply ≡ Err end → TellsLog basis log caller output output disk disk' end
drain_failed basis log caller output disk disk' later reply end does is =
    subst (DrainEnds basis log caller output disk disk' later) is (drain_ends basis log caller output disk disk' later reply does)

-- the rows of the drained log are told
pub rows_told : (basis : Basis) (log : List Change) (caller : Caller) (before after : Told) (disk middle disk' : DiskTold) (later : State) (reply : Reply) (end : RowEnd) (ended : ExportEnd)
    → Does basis (settled log) disk (C.Drain operator) reply later middle → drain_end reply ≡ Ok tt
    → (IsTrue basis.is_told → TellsLines before after (lines_of (view_of basis later.log caller)) end) → ended ≡ end_of end → TellsLog basis log caller before after disk disk' ended
rows_told basis log caller before after disk middle disk' later reply end ended does is tells ends =
    subst (TellsLog basis log caller before after disk disk') (sym ends) (so end (λ told. subst (λ l. TellsLines before after (lines_of (view_of basis l caller)) end)
    (subst (DrainEnds basis log caller before disk middle later) is (drain_ends basis log caller before disk middle later reply does) told) (tells told)))
  where
    so : (end : RowEnd) → (IsTrue basis.is_told → TellsLines before after (export_of basis log caller) end) → TellsLog basis log caller before after disk disk' (end_of end)
    so L.Written tells = tells
    so L.Cut tells = tells
    so L.NoMemory tells = tells
