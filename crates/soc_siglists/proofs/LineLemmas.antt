-- The entries of a file are those of its first line and of what stands behind it.
use Rattle.std.proofs.Common.{◌≡◌, ℕ, ◌+◌, ◌<◌, ◌≤◌, Bool, true, false, cond, List, [], ◌∷◌, ◌++◌, length, map, get_or, refl, sym, ◌∙◌, ap, arith, true≢false, inl, inr}
use Rattle.std.specs.Prelude.{filter, not}
use Rattle.std.specs.List.{slice_split, position_or_len, before_first, after_first, enumerate_from}
use Rattle.std.proofs.lemmas.Bool.{cases_lt}
use Rattle.std.proofs.lemmas.List.{drop_all, take_all}
use Rattle.std.proofs.lemmas.List.Splits.{slice_split_first, slice_split_none}
use Rattle.std.proofs.lemmas.List.Sums.{position_or_len_is, prefix_len_passes}
use Rattle.memchr.specs.Find.{Passes, Nowhere, NoneBefore, is_byte}
use Rattle.soc_base.proofs.Folk.{not_true}
use Rattle.soc_siglists.specs.Entries.{is_line_feed, text_of, is_entry, entries_from}

-- where the search found a line feed, or found none
pub found_at : (bytes : List ℕ) (end : ℕ) → NoneBefore (Passes (is_byte 10) bytes) 0 (length bytes) end × Passes (is_byte 10) bytes end
    → position_or_len is_line_feed bytes ≡ end
found_at bytes end found =
    let inside : end < length bytes = found.0.high in
    position_or_len_is is_line_feed bytes end 0 (omega arith) (λ k below. not_true _ (found.0.before k (omega arith) below)) (λ _. found.1)

pub found_nowhere : (bytes : List ℕ) → Nowhere (Passes (is_byte 10) bytes) 0 (length bytes) → position_or_len is_line_feed bytes ≡ length bytes
found_nowhere bytes none =
    position_or_len_is is_line_feed bytes (length bytes) 0 (omega arith) (λ k below. not_true _ (none k (omega arith) below)) (λ within. absurd (omega arith))

-- the entry that a line is, if it is one
abbrev pub entries_of_line : ℕ → List ℕ → List (ℕ × List ℕ)
entries_of_line number line = cond (is_entry (text_of line)) ((number, text_of line) ∷ []) []

first_of : (b : Bool) (entry : ℕ × List ℕ) (rest : List (ℕ × List ℕ)) → cond b (entry ∷ rest) rest ≡ cond b (entry ∷ []) [] ++ rest
first_of true entry rest = refl
first_of false entry rest = refl

abbrev from_parts : ℕ → List (List ℕ) → List (ℕ × List ℕ)
from_parts number parts = filter (λ entry. is_entry entry.1) (enumerate_from number (map text_of parts))

from_first : (number : ℕ) (line : List ℕ) (parts : List (List ℕ)) → from_parts number (line ∷ parts) ≡ entries_of_line number line ++ from_parts (number + 1) parts
from_first number line parts = first_of (is_entry (text_of line)) (number, text_of line) (from_parts (number + 1) parts)

-- an empty text has no entries
pub entries_from-nil : (number : ℕ) → entries_from number [] ≡ []
entries_from-nil number = refl

not_is_false : (b : Bool) → not b ≡ true → b ≡ false
not_is_false true e = absurd (true≢false (sym e))
not_is_false false e = refl

position_all : (p : ℕ → Bool) (xs : List ℕ) → length xs ≤ position_or_len p xs → (k d : ℕ) → k < length xs → p (get_or xs k d) ≡ false
position_all p xs all k d inside = not_is_false _ (prefix_len_passes (λ x. not (p x)) xs k d (omega arith))

pub entries_from-line : (number : ℕ) (bytes : List ℕ)
    → entries_from number bytes ≡ entries_of_line number (before_first is_line_feed bytes) ++ entries_from (number + 1) (after_first is_line_feed bytes)
entries_from-line number bytes = elim (cases_lt (position_or_len is_line_feed bytes) (length bytes)) [
  | inl inside ↦
      ap (from_parts number) (slice_split_first is_line_feed bytes 0 inside)
      ∙ from_first number (before_first is_line_feed bytes) (slice_split is_line_feed (after_first is_line_feed bytes))
  | inr past ↦
      let whole : before_first is_line_feed bytes ≡ bytes = take_all (position_or_len is_line_feed bytes) bytes past in
      let empty : after_first is_line_feed bytes ≡ [] = drop_all (position_or_len is_line_feed bytes + 1) bytes (omega arith) in
      rw (whole, empty) (ap (from_parts number) (slice_split_none is_line_feed bytes (λ k d inside. position_all is_line_feed bytes past k d inside)) ∙ from_first number bytes [])
]
