-- Texts of a report that are cut at the end of a character (UTF-8, RFC 3629), at a limit of this project's own.
use Rattle.std.specs.Prelude.{ℕ, zero, suc, ◌==◌, ◌&&◌, ◌||◌, nat_lt, nat_le, Bool, if◌then◌else◌, List, length, take, slice_index}

-- the most bytes of a text that is copied from an annotation
abbrev pub text_limit : ℕ
text_limit = 1024

-- the text ends at the place, or a character begins there
abbrev pub is_boundary : List ℕ → ℕ → Bool
is_boundary text place =
    (place == length text)
    || (nat_lt place (length text) && (nat_lt (slice_index text place) 128 || nat_le 192 (slice_index text place)))

-- the last such place up to this one
unfoldable pub last_boundary : List ℕ → ℕ → ℕ
last_boundary text zero = 0
last_boundary text (suc n) = if is_boundary text (suc n) then suc n else last_boundary text n

-- the first bytes of a text, up to the limit, less those of a character that the limit would cut
abbrev pub cut_text : List ℕ → List ℕ
cut_text text = take (last_boundary text text_limit) text
