-- Texts cut by their characters. A character of UTF-8 (RFC 3629, 3) is counted by its first byte: the bytes behind it
-- are 128 to 191.
use Rattle.std.specs.Prelude.{ℕ, ◌-◌, ◌==◌, ◌||◌, nat_lt, nat_le, Bool, if◌then◌else◌, List, [], ◌∷◌, ◌++◌, codes}
use Rattle.std.specs.List.{count_by, join_by}

abbrev pub first_behind : ℕ
first_behind = 128

abbrev pub past_behind : ℕ
past_behind = 192

abbrev pub begins_char : ℕ → Bool
begins_char byte = nat_lt byte first_behind || nat_le past_behind byte

-- how many characters a text has
abbrev pub char_count : List ℕ → ℕ
char_count text = count_by begins_char text

-- the first so many characters of a text
abbrev pub first_chars : ℕ → List ℕ → List ℕ
first_chars count [] = []
first_chars count (byte ∷ rest) =
    if begins_char byte then (if count == 0 then [] else byte ∷ first_chars (count - 1) rest) else byte ∷ first_chars count rest

-- more characters than these
abbrev pub is_longer : ℕ → List ℕ → Bool
is_longer count text = nat_lt count (char_count text)

-- a text that is too long, cut to that length with `...` at its end
abbrev pub cut : ℕ → List ℕ → List ℕ
cut most text = first_chars (most - 3) text ++ codes "..."

-- the same, or the text where it isn't too long
abbrev pub at_most : ℕ → List ℕ → List ℕ
at_most most text = if is_longer most text then cut most text else text

-- texts with a separator between them
abbrev pub joined : List ℕ → List (List ℕ) → List ℕ
joined separator texts = join_by (λ text. text) separator texts
