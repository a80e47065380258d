-- What the answer of a turn tells of its piece.
use Rattle.std.proofs.Common.{◌≡◌, ◌+◌, ◌≤◌, ◌<◌, ◌^◌, List, ◌++◌, length, drop, Some, sym, ◌∙◌, ap, subst, arith, length-append}
use Rattle.std.specs.Coded.{le_prop}
use Rattle.std.proofs.Math.Logic.{∥∥₁_elim}
use Rattle.std.proofs.Math.Seq.{drop-append_seam}
use Rattle.soc_hall.specs.Asked.{sees}
use Rattle.soc_hall.specs.Log.{changes, tagged}
use Rattle.soc_hall.specs.Seats.{seen_of}
use Rattle.soc_hall.proofs.Logs.{changes_tagged, whole_append}
use Rattle.soc_desk.specs.declared.desk.Command.{Command}
use Rattle.soc_desk.specs.declared.desk.Receipt.{Receipt}
use Rattle.soc_desk.specs.Basis.{Basis}
use Rattle.soc_service.specs.declared.change.Change.{Change}
use Rattle.soc_service.specs.Answers.{Answers, TellsAnswers}
use Rattle.soc_service.specs.Turns.{Knows, Shared, Turn}

module _ {T A B : Type 0} (desk : Shared T A B) (command_of : A → Command) (desk_of : B → Basis) (tells : TellsAnswers command_of desk_of desk.answers) where
  module _ {v w : Knows A B} {command : Command} {receipt : Receipt} (turn : Turn desk command_of v command receipt w) where
    abbrev pub log_before : List Change
    log_before = seen_of (sees turn.asked.between v)

    pub log_after : seen_of w ≡ log_before ++ turn.asked.piece
    log_after =
        ap (λ k. seen_of k) turn.asked.knows
        ∙ (whole_append v.opening (v.seen ++ turn.asked.between) (tagged v.number turn.asked.piece) ∙ ap (λ xs. log_before ++ xs) (changes_tagged v.number turn.asked.piece))

    same_piece : (piece : List Change) → seen_of w ≡ log_before ++ piece → piece ≡ turn.asked.piece
    same_piece piece is =
        sym (drop-append_seam log_before piece)
        ∙ (ap (λ l. drop (length log_before) l) (sym is ∙ log_after) ∙ drop-append_seam log_before turn.asked.piece)

    -- what the desk's answer is
    answer : (basis : B) × (v.basis ≡ Some basis) × ∥ Answers (desk_of basis) log_before command receipt (seen_of w) ∥₁
    answer =
        let right = turn.asked.right in
        (right.0, right.1, subst (λ c. ∥ Answers (desk_of right.0) log_before c receipt (seen_of w) ∥₁) turn.of_command (tells right.0 log_before turn.prepared receipt (seen_of w) right.2))

    -- what the answer tells of its piece
    pub told : (P : List Change → Type 0) → IsProp (P turn.asked.piece)
        → ((basis : B) → v.basis ≡ Some basis → (a : Answers (desk_of basis) log_before command receipt (seen_of w)) → P a.piece) → P turn.asked.piece
    told P prop each =
        ∥∥₁_elim answer.2 prop (λ (a : Answers (desk_of answer.0) log_before command receipt (seen_of w)). subst P (same_piece a.piece a.behind) (each answer.0 answer.1 a))

    pub log_grows : length log_before + length turn.asked.piece ≡ length (seen_of w)
    log_grows = sym (ap (λ l. length l) log_after ∙ length-append log_before turn.asked.piece)

    pub seen_before : length (seen_of v) ≤ length log_before
    seen_before =
        let is : length log_before ≡ length (seen_of v) + length (changes turn.asked.between) =
        ap (λ l. length l) (whole_append v.opening v.seen turn.asked.between) ∙ length-append (seen_of v) (changes turn.asked.between) in
        omega arith

    pub short : length (seen_of w) < 2 ^ 60
    short = ∥∥₁_elim answer.2 le_prop (λ (a : Answers (desk_of answer.0) log_before command receipt (seen_of w)). a.short)
