-- The entries of a list file: one pattern a line (this project's profile, after Socorro's list files).
use Rattle.std.specs.Prelude.{ℕ, ◌-◌, ◌==◌, ◌&&◌, ◌||◌, nat_eq, nat_lt, not, Bool, List, length, map, take, filter, codes}
use Rattle.std.specs.List.{starts_with, suffix_len, slice_split, enumerate_from}
use Rattle.soc_text.specs.Blanks.{is_blank}
use Rattle.soc_text.specs.Lines.{carriage_return, line_feed}

abbrev pub is_line_feed : ℕ → Bool
is_line_feed byte = byte == line_feed

-- a space, a tab or a carriage return
abbrev pub is_end_blank : ℕ → Bool
is_end_blank byte = is_blank byte || byte == carriage_return

-- a line without the blanks at its end
abbrev pub text_of : List ℕ → List ℕ
text_of line = take (length line - suffix_len is_end_blank line) line

-- neither empty nor a comment
abbrev pub is_entry : List ℕ → Bool
is_entry text = nat_lt 0 (length text) && not (starts_with nat_eq text (codes "#"))

-- the texts of the lines from this number on that are entries, each with its number
abbrev pub entries_from : ℕ → List ℕ → List (ℕ × List ℕ)
entries_from number bytes = filter (λ entry. is_entry entry.1) (enumerate_from number (map text_of (slice_split is_line_feed bytes)))

-- lines are counted from 1
abbrev pub entries : List ℕ → List (ℕ × List ℕ)
entries bytes = entries_from 1 bytes
