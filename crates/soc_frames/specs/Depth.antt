-- Which brackets of a function's name stand open at each of its places (this project's profile, after the way in which
-- Socorro collapses names).
use Rattle.std.specs.Prelude.{ℕ, ◌-◌, ◌==◌, ◌&&◌, ◌||◌, nat_eq, nat_lt, not, Bool, true, false, if◌then◌else◌, List, [], ◌∷◌, ◌++◌, length, take, slice_get, codes}
use Rattle.std.specs.List.{starts_with, ends_with}
use Rattle.std.specs.Option.{option_map_or}
use Rattle.std.specs.Char.{is_ascii_alphanumeric}
use Rattle.soc_frames.specs.declared.walk.Place.{Place}

abbrev pub open_angle : ℕ
open_angle = 60

abbrev pub close_angle : ℕ
close_angle = 62

abbrev pub open_round : ℕ
open_round = 40

abbrev pub close_round : ℕ
close_round = 41

abbrev pub underscore : ℕ
underscore = 95

-- ---- texts whose brackets don't count

abbrev pub begins : List ℕ → List ℕ → Bool
begins text front = starts_with nat_eq text front

abbrev pub ends : List ℕ → List ℕ → Bool
ends text back = ends_with nat_eq text back

abbrev pub anonymous : List ℕ
anonymous = codes "(anonymous namespace)"

abbrev pub arrow : List ℕ
arrow = codes "->"

-- what may stand behind the word `operator`, each before its own fronts
abbrev pub operators : List (List ℕ)
operators =
    codes "()" ∷ codes "<=>" ∷ codes "<<=" ∷ codes ">>=" ∷ codes "->*" ∷ codes "->" ∷ codes "<<" ∷ codes ">>" ∷ codes "<=" ∷ codes ">=" ∷ codes "<" ∷ codes ">" ∷ []

-- the length of the first of these fronts that the text begins with, or 0
abbrev pub front_length : List ℕ → List (List ℕ) → ℕ
front_length text [] = 0
front_length text (front ∷ fronts) = if begins text front then length front else front_length text fronts

abbrev pub is_word_byte : ℕ → Bool
is_word_byte byte = is_ascii_alphanumeric byte || byte == underscore

abbrev pub operator_word : List ℕ
operator_word = codes "operator"

-- the text ends in a letter, a digit or `_`
abbrev pub ends_in_word : List ℕ → Bool
ends_in_word text = option_map_or is_word_byte (slice_get text (length text - 1)) false

-- the text ends in the word `operator`
abbrev pub ends_in_operator : List ℕ → Bool
ends_in_operator text =
    ends text operator_word && not (ends_in_word (take (length text - length operator_word) text))

-- how many bytes at the front of the rest are one text whose brackets don't count, with these before them
abbrev pub plain_length : List ℕ → List ℕ → ℕ
plain_length before rest =
    if begins rest anonymous then length anonymous
    else if ends_in_operator before then front_length rest operators
    else if begins rest arrow then length arrow
    else 0

-- the places of the rest, each plain where it is part of such a text: so many bytes are left of one that began before
abbrev pub places_from : List ℕ → ℕ → List ℕ → List Place
places_from before left [] = []
places_from before left (byte ∷ rest) =
    let plain = if nat_lt 0 left then left else plain_length before (byte ∷ rest) in
    record { byte = byte; is_plain = nat_lt 0 plain } ∷ places_from (before ++ byte ∷ []) (plain - 1) rest

abbrev pub places_of : List ℕ → List Place
places_of text = places_from [] 0 text

-- ---- what stands open, the innermost first

pub data Bracket : Type 0 where
  angle : Bracket
  round : Bracket

abbrev pub has_round : List Bracket → Bool
has_round [] = false
has_round (angle ∷ brackets) = has_round brackets
has_round (round ∷ brackets) = true

-- without the innermost `<`, where nothing stands open inside it
abbrev pub without_angle : List Bracket → List Bracket
without_angle [] = []
without_angle (angle ∷ brackets) = brackets
without_angle (round ∷ brackets) = round ∷ brackets

-- without the innermost `(` and all that stands open inside it
abbrev pub behind_round : List Bracket → List Bracket
behind_round [] = []
behind_round (angle ∷ brackets) = behind_round brackets
behind_round (round ∷ brackets) = brackets

abbrev pub without_round : List Bracket → List Bracket
without_round brackets = if has_round brackets then behind_round brackets else brackets

-- what stands open behind a place
abbrev pub open_after : List Bracket → Place → List Bracket
open_after brackets place =
    if place.is_plain then brackets
    else if place.byte == open_angle then angle ∷ brackets
    else if place.byte == open_round then round ∷ brackets
    else if place.byte == close_angle then without_angle brackets
    else if place.byte == close_round then without_round brackets
    else brackets

-- a place, with what stands open before it
pub record Nested : Type 0 where
  pub open_before : List Bracket
  pub place : Place

abbrev pub nested_from : List Bracket → List Place → List Nested
nested_from brackets [] = []
nested_from brackets (place ∷ places) = record { open_before = brackets; place = place } ∷ nested_from (open_after brackets place) places

-- each place of a text, with what stands open before it
abbrev pub nested_of : List ℕ → List Nested
nested_of text = nested_from [] (places_of text)

abbrev pub is_outer : List Bracket → Bool
is_outer [] = true
is_outer (_ ∷ _) = false
