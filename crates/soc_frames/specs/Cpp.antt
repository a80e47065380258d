-- The text of a C++ function (this project's profile, after Socorro's signatures).
use Rattle.std.specs.Prelude.{ℕ, ◌-◌, ◌==◌, ◌&&◌, ◌||◌, not, zero, suc, Bool, true, false, if◌then◌else◌, List, [], ◌∷◌, ◌++◌, length, map, take, codes}
use Rattle.std.specs.List.{after_last}
use Rattle.soc_text.specs.Blanks.{space}
use Rattle.soc_frames.specs.Depth.{Nested, nested_of, is_outer, begins, ends}
use Rattle.soc_frames.specs.Collapse.{collapsed}

abbrev pub star : ℕ
star = 42

abbrev pub ampersand : ℕ
ampersand = 38

abbrev pub comma : ℕ
comma = 44

-- ---- what follows a function's parameters

abbrev pub constant : List ℕ
constant = codes " const"

-- how long what the text ends with is: ` const`, a space or `&` (`&&` is two of them)
abbrev pub end_length : List ℕ → ℕ
end_length text =
    if ends text constant then length constant
    else if ends text (codes " ") then 1
    else if ends text (codes "&") then 1
    else 0

-- without one of them
abbrev pub without_end : List ℕ → List ℕ
without_end text = take (length text - end_length text) text

-- so many times
abbrev pub without_ends : ℕ → List ℕ → List ℕ
without_ends zero text = text
without_ends (suc n) text = without_ends n (without_end text)

-- without any of them at the end: a text has no more than bytes
abbrev pub trimmed : List ℕ → List ℕ
trimmed text = without_ends (length text) text

-- ---- what precedes a function's name

-- the piece stands somewhere in the text
abbrev pub contains : List ℕ → List ℕ → Bool
contains piece [] = begins [] piece
contains piece (byte ∷ text) = begins (byte ∷ text) piece || contains piece text

-- a space outside of brackets
abbrev pub is_outer_space : Nested → Bool
is_outer_space nested = is_outer nested.open_before && not nested.place.is_plain && nested.place.byte == space

-- what stands behind the last of them, or all
abbrev pub behind_spaces : List ℕ → List ℕ
behind_spaces text = map (λ nested. nested.place.byte) (after_last is_outer_space (nested_of text))

abbrev pub conversion : List ℕ
conversion = codes "::operator"

-- without the type of what it returns; all of a conversion operator, whose name has spaces
abbrev pub without_return_type : List ℕ → List ℕ
without_return_type text = if contains conversion text then text else behind_spaces text

-- ---- spaces

abbrev pub is_mark : ℕ → Bool
is_mark byte = byte == star || byte == ampersand || byte == comma

-- the text goes on with `*`, `&` or `,`, maybe behind spaces
abbrev pub comes_to_mark : List ℕ → Bool
comes_to_mark [] = false
comes_to_mark (byte ∷ rest) = if byte == space then comes_to_mark rest else is_mark byte

-- no space before `*`, `&` and `,`, and one space behind each `,`; `behind_comma` says that a comma, or a comma and
-- spaces, stand before
abbrev pub spaced_from : Bool → List ℕ → List ℕ
spaced_from behind_comma [] = []
spaced_from behind_comma (byte ∷ rest) =
    if byte == space then (if behind_comma || comes_to_mark rest then spaced_from behind_comma rest else byte ∷ spaced_from false rest)
    else (if byte == comma then codes ", " ++ spaced_from true rest else byte ∷ spaced_from false rest)

abbrev pub spaced : List ℕ → List ℕ
spaced text = spaced_from false text

-- ---- the whole

abbrev pub cpp_name : List ℕ → List ℕ
cpp_name text = spaced (collapsed (without_return_type (trimmed text)))

-- the text of a function: its name as it was where nothing is left of it
abbrev pub cpp_text : List ℕ → List ℕ
cpp_text text = if length (cpp_name text) == 0 then text else cpp_name text
