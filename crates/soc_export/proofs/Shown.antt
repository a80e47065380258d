-- What a desk answers when it is asked for a report, and drained, by its view.
use Rattle.std.proofs.Common.{◌≡◌, ℕ, true, false, List, [], Option, None, Some, inl, inr, refl, sym, ap}
use Rattle.std.specs.Prelude.{unwrap_or}
use Rattle.std.specs.Option.{option_and_then, option_map, option_map_or}
use Rattle.soc_base.specs.Names.{value_of}
use Rattle.soc_base.proofs.Folk.{some_same}
use Rattle.soc_schema.specs.declared.caller.Caller.{Caller}
use Rattle.soc_schema.specs.declared.caller.Products.TheVariants.{All}
use Rattle.soc_schema.specs.declared.permission.Permission.TheVariants.{Operate}
use Rattle.soc_schema.specs.declared.value.Cell.{Cell}
use Rattle.soc_desk.specs.declared.desk.Command.TheVariants as C
use Rattle.soc_desk.specs.declared.desk.Refusal.{Refusal}
use Rattle.soc_desk.specs.declared.desk.Refusal.TheVariants as F
use Rattle.soc_desk.specs.declared.desk.Reply.{Reply}
use Rattle.soc_desk.specs.declared.desk.Reply.TheVariants as R
use Rattle.soc_desk.specs.Basis.{Basis}
use Rattle.soc_desk.specs.Decisions.{without}
use Rattle.soc_desk.specs.Desk.{Step}
use Rattle.soc_desk.specs.Log.{Change}
use Rattle.soc_desk.specs.Reads.{processed_reply}
use Rattle.soc_desk.specs.State.{State, settled}
use Rattle.soc_desk.specs.View.{Seen, view_of}
use Rattle.soc_desk.proofs.Views.{true_is_not_false}
use Rattle.soc_export.specs.Lines.{drained, row_line}
use Rattle.soc_export.specs.inner.Telling.{piece_in}

-- ---- the report of a crash

row_of_none : {row : List Cell} {refusal : Refusal} → R.Refused refusal ≡ R.Row row → ⊥
row_of_none is = cc

shown_row : (o : Option (List Cell)) (row : List Cell) → option_map_or R.Row o (R.Refused F.NotProcessed) ≡ R.Row row → unwrap_or (option_map row_line o) [] ≡ row_line row
shown_row None row is = absurd (row_of_none is)
shown_row (Some cells) row is = ap row_line (same_row is) where
  same_row : R.Row cells ≡ R.Row row → cells ≡ row
  same_row e = cc

shown : (seen : Option Seen) (row : List Cell) → processed_reply seen ≡ R.Row row → unwrap_or (option_map row_line (option_and_then (λ s. s.row) seen)) [] ≡ row_line row
shown None row is = absurd (row_of_none is)
shown (Some seen) row is = shown_row seen.row row is

hidden_row : (o : Option (List Cell)) (refusal : Refusal) → option_map_or R.Row o (R.Refused F.NotProcessed) ≡ R.Refused refusal → unwrap_or (option_map row_line o) [] ≡ []
hidden_row None refusal is = refl
hidden_row (Some cells) refusal is = absurd (row_of_none (sym is))

hidden : (seen : Option Seen) (refusal : Refusal) → processed_reply seen ≡ R.Refused refusal → unwrap_or (option_map row_line (option_and_then (λ s. s.row) seen)) [] ≡ []
hidden None refusal is = refl
hidden (Some seen) refusal is = hidden_row seen.row refusal is

module _ (basis : Basis) (state : State) (caller : Caller) (id : List ℕ) where
  -- nothing is changed
  pub asked_stays : (reply : Reply) (later : State) → Step basis state (C.Processed caller id) reply later → later ≡ state
  asked_stays reply later (inl is) = is.1
  asked_stays reply later (inr fails) = elim fails.1 [ inl refused ↦ refused.1 | inr refused ↦ refused.1.1 ]

  -- a row is that of the view
  pub asked_row : (row : List Cell) (later : State) → Step basis state (C.Processed caller id) (R.Row row) later → piece_in (view_of basis state.log caller) id ≡ row_line row
  asked_row row later (inl is) = shown (value_of (view_of basis state.log caller) id) row (some_same _ _ is.0)
  asked_row row later (inr fails) = absurd (elim fails.1 [ inl refused ↦ row_of_none (sym refused.0) | inr refused ↦ row_of_none (sym refused.1.0) ])

  -- there is none where the crash isn't there or has no report
  pub asked_none : (refusal : Refusal) (later : State) → (refusal ≡ F.NoMemory → ⊥) → Step basis state (C.Processed caller id) (R.Refused refusal) later → piece_in (view_of basis state.log caller) id ≡ []
  asked_none refusal later other (inl is) = hidden (value_of (view_of basis state.log caller) id) refusal (some_same _ _ is.0)
  asked_none refusal later other (inr fails) = absurd (elim fails.1 [ inl refused ↦ other (same_refusal refused.0) | inr refused ↦ true_is_not_false (sym refused.0) ]) where
    same_refusal : R.Refused refusal ≡ R.Refused F.NoMemory → refusal ≡ F.NoMemory
    same_refusal e = cc

-- ---- a drain

-- who may drain
abbrev pub operator : Caller
operator = record { permissions = record { protected_data = false; view_rawdump = false; reprocess_crashes = false; operate = true }; products = All }

pub may_drain : without operator Operate ≡ None
may_drain = refl

pub drained_log : (basis : Basis) (log : List Change) (count : ℕ) (later : State) → Step basis (settled log) (C.Drain operator) (R.Drained count) later → later.log ≡ drained basis log
drained_log basis log count later step = ap (λ (s : State). s.log) step.1
