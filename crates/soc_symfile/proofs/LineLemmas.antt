-- The first line of a text.
use Rattle.std.proofs.Common.{◌≡◌, ◌==◌, ℕ, ◌+◌, ◌<◌, Bool, true, false, List, [], ◌∷◌, length, take, drop, refl, sym, ◌∙◌, ap, arith, length-drop}
use Rattle.std.proofs.lemmas.List.{drop_all, get_or_default}
use Rattle.std.specs.List.{slice_split, position_or_len}
use Rattle.std.specs.Str.Lines.{lines, lines_of_parts, strip_carriage_return}
use Rattle.std.proofs.lemmas.Bool.Decides.{nat_tests}
use Rattle.std.proofs.lemmas.List.Splits.{slice_split_first, slice_split_none, length-slice_split}
use Rattle.std.proofs.lemmas.List.Sums.{position_or_len_is}
use Rattle.memchr.specs.Find.{Passes, Nowhere, NoneBefore, is_byte}
use Rattle.soc_base.proofs.Folk.{not_true}

is_line_feed : ℕ → Bool
is_line_feed b = b == 10

-- a part that another follows is a line
line_first : (part : List ℕ) (parts : List (List ℕ)) → 0 < length parts → lines_of_parts (part ∷ parts) ≡ strip_carriage_return part ∷ lines_of_parts parts
line_first part [] some = absurd (omega arith)
line_first part (next ∷ parts) some = refl

split_at_end : (text : List ℕ) (end : ℕ) → NoneBefore (Passes (is_byte 10) text) 0 (length text) end × Passes (is_byte 10) text end
    → lines text ≡ strip_carriage_return (take end text) ∷ lines (drop (end + 1) text)
split_at_end text end found =
    let inside : end < length text = found.0.high in
    let place : position_or_len (λ b. b == 10) text ≡ end =
    position_or_len_is (λ b. b == 10) text end 0 (omega arith) (λ k below. not_true _ (found.0.before k (omega arith) below)) (λ _. found.1) in
    let parts : slice_split (λ b. b == 10) text ≡ take end text ∷ slice_split (λ b. b == 10) (drop (end + 1) text) =
    rw place at (slice_split_first (λ b. b == 10) text 0 (omega arith)) in
    let some : 0 < length (slice_split (λ b. b == 10) (drop (end + 1) text)) = omega (arith, length-slice_split (λ b. b == 10) (drop (end + 1) text)) in
    ap lines_of_parts parts ∙ line_first (take end text) _ some

-- a line that a line feed ends
pub ended_line : (text line cut rest : List ℕ) (end : ℕ) → NoneBefore (Passes (is_byte 10) text) 0 (length text) end × Passes (is_byte 10) text end
    → line ≡ strip_carriage_return cut → cut ≡ take end text → rest ≡ drop (end + 1) text → (lines text ≡ line ∷ lines rest) × (length rest < length text)
ended_line text line cut rest end found is is_cut is_rest =
    let inside : end < length text = found.0.high in
    (rw (is, is_cut, is_rest) (split_at_end text end found), rw is_rest (omega (arith, length-drop (end + 1) text)))

-- the last line, which the text's end ends
pub last_line : (text rest : List ℕ) → false ≡ (length text == 0) → Nowhere (Passes (is_byte 10) text) 0 (length text) → rest ≡ drop (length text) text
    → (lines text ≡ text ∷ lines rest) × (length rest < length text)
last_line text rest some none is_rest =
    let parts : slice_split (λ b. b == 10) text ≡ text ∷ [] = slice_split_none (λ b. b == 10) text (λ k d inside. rw (get_or_default text k d 0 inside) (not_true _ (none k (omega arith) inside))) in
    let one : lines_of_parts (text ∷ []) ≡ text ∷ [] = rw (sym some) refl in
    let empty : rest ≡ [] = is_rest ∙ drop_all (length text) text (omega arith) in
    (rw empty (ap lines_of_parts parts ∙ one), rw empty (grind (arith, nat_tests)))
