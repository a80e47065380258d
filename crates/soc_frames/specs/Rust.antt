-- The text of a Rust function (this project's profile, after Socorro's signatures).
use Rattle.std.specs.Prelude.{ℕ, ◌-◌, ◌+◌, ◌==◌, ◌&&◌, nat_lt, Bool, false, if◌then◌else◌, List, [], ◌∷◌, ◌++◌, length, map, take, drop, codes}
use Rattle.std.specs.List.{list_all}
use Rattle.soc_text.specs.Digits.{is_lower_hex}
use Rattle.soc_frames.specs.declared.walk.Place.{Place}
use Rattle.soc_frames.specs.Depth.{places_of, open_angle, close_angle, begins}
use Rattle.soc_frames.specs.Collapse.{template}
use Rattle.soc_frames.specs.Cpp.{contains}

-- ---- the hash at the end of a name

abbrev pub hash_front : List ℕ
hash_front = codes "::h"

-- `::h` and 16 digits
abbrev pub hash_length : ℕ
hash_length = 19

abbrev pub is_hash : List ℕ → Bool
is_hash text = length text == hash_length && begins text hash_front && list_all is_lower_hex (drop (length hash_front) text)

abbrev pub without_hash : List ℕ → List ℕ
without_hash text =
    if is_hash (drop (length text - hash_length) text) then take (length text - hash_length) text else text

-- ---- groups of `<`: parentheses don't count

-- how many groups are open behind a place, with so many open before it
abbrev pub depth_after : ℕ → Place → ℕ
depth_after depth place =
    if place.is_plain then depth
    else if place.byte == open_angle then depth + 1
    else if place.byte == close_angle then depth - 1
    else depth

-- how many places the group has that is so deep at the front: up to the bracket that closes it, or to the end
abbrev pub group_length : ℕ → List Place → ℕ
group_length depth [] = 0
group_length depth (place ∷ places) =
    if depth_after depth place == 0 then 1 else group_length (depth_after depth place) places + 1

abbrev pub bytes_of : List Place → List ℕ
bytes_of places = map (λ place. place.byte) places

-- a group stays whole where ` as ` stands in it: `<Type as Trait>`
abbrev pub stays : List Place → Bool
stays places = contains (codes " as ") (bytes_of (take (group_length 1 places) places))

-- the text of the places: so deep in a group that stays or doesn't
abbrev pub grouped_from : Bool → ℕ → List Place → List ℕ
grouped_from kept depth [] = []
grouped_from kept depth (place ∷ places) =
    if nat_lt 0 depth then (if kept then place.byte ∷ [] else []) ++ grouped_from kept (depth_after depth place) places
    else if depth_after 0 place == 0 then place.byte ∷ grouped_from false 0 places
    else (if stays places then place.byte ∷ [] else template) ++ grouped_from (stays places) 1 places

abbrev pub grouped : List ℕ → List ℕ
grouped text = grouped_from false 0 (places_of text)

abbrev pub rust_text : List ℕ → List ℕ
rust_text text = grouped (without_hash text)
