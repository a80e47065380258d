-- Blanks in signatures.
use Rattle.std.specs.Prelude.{ℕ, ◌==◌, ◌||◌, nat_lt, Bool, List, filter, length, codes}
use Rattle.std.specs.List.{slice_split}
use Rattle.soc_text.specs.Blanks.{is_blank}
use Rattle.soc_text.specs.Lines.{carriage_return, line_feed}
use Rattle.soc_sigrules.specs.Chars.{joined}

-- a space, a tab, a carriage return or a line feed
abbrev pub is_gap : ℕ → Bool
is_gap byte = is_blank byte || (byte == carriage_return || byte == line_feed)

abbrev pub words : List ℕ → List (List ℕ)
words text = filter (λ word. nat_lt 0 (length word)) (slice_split is_gap text)

-- one space between words, and none around them
abbrev pub spaced : List ℕ → List ℕ
spaced text = joined (codes " ") (words text)
