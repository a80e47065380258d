-- What a walk over a name has left, and how it goes on.
use Rattle.std.specs.Prelude.{ℕ, ◌≡◌, ◌+◌, ◌<◌, ◌≤◌, ◌==◌, ◌&&◌, ◌||◌, not, false, Bool, if◌then◌else◌, List, [], ◌∷◌, ◌++◌, length, take, drop, map, slice_index, slice_range, codes}
use Rattle.std.specs.Str.{IsUtf8, IsCharBoundary}
use Rattle.soc_text.specs.Blanks.{space}
use Rattle.soc_frames.specs.declared.walk.Place.{Place}
use Rattle.soc_frames.specs.declared.walk.Walk.{Walk}
use Rattle.soc_frames.specs.Depth.{Bracket, Nested, places_from, open_after, is_outer, open_angle, open_round}
use Rattle.soc_frames.specs.Collapse.{template}
use Rattle.soc_frames.specs.Cpp.{contains, is_outer_space}
use Rattle.soc_frames.specs.Rust.{group_length, grouped_from}

-- the places that a walk has left
abbrev pub rest_of : Walk → List Place
rest_of walk = places_from (take walk.place walk.text.now) walk.plain (drop walk.place walk.text.now)

abbrev pub opens_angle : Place → Bool
opens_angle place = not place.is_plain && place.byte == open_angle

abbrev pub opens : Place → Bool
opens place = not place.is_plain && (place.byte == open_angle || place.byte == open_round)

abbrev pub is_space : Place → Bool
is_space place = not place.is_plain && place.byte == space

-- nothing is left
pub record IsAtEnd (old new : Walk) : Type 0 where
  pub nothing : rest_of old ≡ []
  pub same : new ≡ old
  pub end : length old.text.now ≤ old.place

-- the walk went one place on
pub record Passes (place : Place) (old new : Walk) : Type 0 where
  pub rest : rest_of old ≡ place ∷ rest_of new
  pub text : new.text ≡ old.text
  pub next : new.place ≡ old.place + 1
  pub within : new.place ≤ length old.text.now
  pub byte : slice_index old.text.now old.place ≡ place.byte

-- ---- C++

-- the places behind all that stands open
abbrev pub behind_group : List Bracket → List Place → List Place
behind_group brackets [] = []
behind_group brackets (place ∷ places) =
    if is_outer (open_after brackets place) then places else behind_group (open_after brackets place) places

abbrev pub behind : List Bracket → List Place → List Place
behind brackets places = if is_outer brackets then places else behind_group brackets places

-- the walk went on behind a group
pub record PassesGroup (brackets : List Bracket) (old new : Walk) : Type 0 where
  pub rest : rest_of new ≡ behind brackets (rest_of old)
  pub text : new.text ≡ old.text
  pub onward : old.place ≤ new.place
  pub within : new.place ≤ length old.text.now
  pub boundary : IsUtf8 old.text.now → IsCharBoundary old.text.now new.place

-- the walk went on behind a place outside of brackets and, where that opens a group, behind the group
pub record PassesOuter (place : Place) (old new : Walk) : Type 0 where
  pub tail : List Place
  pub here : rest_of old ≡ place ∷ tail
  pub rest : rest_of new ≡ behind (open_after [] place) tail
  pub text : new.text ≡ old.text
  pub onward : old.place < new.place
  pub within : new.place ≤ length old.text.now
  pub byte : slice_index old.text.now old.place ≡ place.byte
  pub single : opens place ≡ false → new.place ≡ old.place + 1
  pub boundary : IsUtf8 old.text.now → place.byte < 128 → IsCharBoundary old.text.now new.place

-- what stands behind the last outer space, or else this
abbrev pub behind_or : List ℕ → List Nested → List ℕ
behind_or otherwise [] = otherwise
behind_or otherwise (nested ∷ rest) =
    behind_or (if is_outer_space nested then map (λ other. other.place.byte) rest else otherwise) rest

-- ---- Rust

-- the walk went on behind a group of `<`
pub record PassesAngles (old new : Walk) : Type 0 where
  pub rest : rest_of new ≡ drop (group_length 1 (rest_of old)) (rest_of old)
  pub next : new.place ≡ old.place + group_length 1 (rest_of old)
  pub text : new.text ≡ old.text
  pub within : new.place ≤ length old.text.now
  pub boundary : IsUtf8 old.text.now → IsCharBoundary old.text.now new.place

-- the walk went on behind the next group of `<`, which begins at `start`
pub record FindsAngles (start : ℕ) (old new : Walk) : Type 0 where
  pub onward : old.place ≤ start
  pub inside : start < new.place
  pub within : new.place ≤ length old.text.now
  pub text : new.text ≡ old.text
  pub rest : grouped_from false 0 (rest_of old)
      ≡ slice_range old.text.now old.place start
      ++ ((if contains (codes " as ") (slice_range old.text.now start new.place) then slice_range old.text.now start new.place else template)
      ++ grouped_from false 0 (rest_of new))
  pub bracket : slice_index old.text.now start ≡ open_angle
  pub boundary : IsUtf8 old.text.now → IsCharBoundary old.text.now new.place
