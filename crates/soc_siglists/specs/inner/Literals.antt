-- Patterns that stand for a text, and tables of such texts.
use Rattle.std.specs.Prelude.{◌≡◌, ℕ, ◌<◌, ◌||◌, nat_eq, Bool, false, List, get_or, length}
use Rattle.std.specs.Ordering.{is_gt}
use Rattle.std.specs.List.{All, AllByRecursion, list_any, starts_with}
use Rattle.std.specs.Str.{IsUtf8}
use Rattle.soc_base.specs.Names.{byte_cmp}
use Rattle.soc_siglists.specs.Lists.{matches_one}
use Rattle.soc_siglists.specs.Patterns.{matches_start}

-- the frame begins with the text
abbrev pub begins_with : List ℕ → List ℕ → Bool
begins_with frame text = starts_with nat_eq frame text

abbrev pub begins_with_one : List (List ℕ) → List ℕ → Bool
begins_with_one texts frame = list_any (begins_with frame) texts

-- the text doesn't stand behind the other one in the order of bytes
abbrev pub IsUpTo : List ℕ → List ℕ → Type 0
IsUpTo other text = is_gt (byte_cmp text other) ≡ false

-- a frame is UTF-8
pub record IsFrame (frame : List ℕ) : Type 0 where
  pub utf8 : IsUtf8 frame
  pub bytes : (k : ℕ) → get_or frame k 0 < 256

-- the pattern matches the frames that begin with the text
abbrev pub StandsFor : List ℕ → List ℕ → Type 0
StandsFor pattern text = (frame : List ℕ) → IsFrame frame → matches_start frame pattern ≡ begins_with frame text

-- it stands up to the other one, which doesn't begin with it
pub record IsApart (text other : List ℕ) : Type 0 where
  pub in_order : IsUpTo other text
  pub no_front : begins_with other text ≡ false

-- each is apart from those after it
abbrev pub AreApart : List (List ℕ) → Type 0
AreApart texts = (i j : ℕ) (d : List ℕ) → i < j → j < length texts → IsApart (get_or texts i d) (get_or texts j d)

-- the patterns match the frames that begin with a literal or that one of the others matches
abbrev pub AreSplit : List (List ℕ) → List (List ℕ) → List (List ℕ) → Type 0
AreSplit patterns literals others = (frame : List ℕ) → IsFrame frame → matches_one patterns frame ≡ (begins_with_one literals frame || matches_one others frame)

-- answers that were given before, each by a frame
abbrev pub AreAnswers : List (List ℕ) → List (List ℕ × Bool) → Type 0
AreAnswers patterns answers = AllByRecursion (λ p. p.1 ≡ matches_one patterns p.0) answers
