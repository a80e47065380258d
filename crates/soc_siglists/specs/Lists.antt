-- What three lists of patterns say of frames.
use Rattle.std.specs.Prelude.{ℕ, Bool, List, Option}
use Rattle.std.specs.List.{list_any, position}
use Rattle.soc_siglists.specs.Patterns.{matches_start}

-- the patterns of each list, as texts
pub record ListTexts : Type 0 where
  pub irrelevant : List (List ℕ)
  pub prefix : List (List ℕ)
  pub sentinel : List (List ℕ)

-- one of the patterns matches where the frame begins
abbrev pub matches_one : List (List ℕ) → List ℕ → Bool
matches_one texts frame = list_any (matches_start frame) texts

abbrev pub is_irrelevant : ListTexts → List ℕ → Bool
is_irrelevant lists frame = matches_one lists.irrelevant frame

abbrev pub is_prefix : ListTexts → List ℕ → Bool
is_prefix lists frame = matches_one lists.prefix frame

abbrev pub is_sentinel : ListTexts → List ℕ → Bool
is_sentinel lists frame = matches_one lists.sentinel frame

-- where the first sentinel stands
abbrev pub sentinel_place : ListTexts → List (List ℕ) → Option ℕ
sentinel_place lists frames = position (is_sentinel lists) frames
