-- How a name's spaces are put right, piece by piece.
use Rattle.std.specs.Prelude.{ℕ, ◌≡◌, ◌<◌, ◌≤◌, ◌==◌, ◌&&◌, not, Bool, false, List, ◌++◌, length, drop}
use Rattle.std.specs.Str.{IsCharBoundary}
use Rattle.soc_text.specs.Blanks.{space}
use Rattle.soc_frames.specs.Cpp.{comma, spaced_from}

-- the name was put right up to here, from there on
pub record Puts (name : List ℕ) (from : ℕ) (old : List ℕ) (to : ℕ) (new : List ℕ) : Type 0 where
  pub onward : from < to
  pub within : to ≤ length name
  pub same : new ++ spaced_from false (drop to name) ≡ old ++ spaced_from false (drop from name)
  pub boundary : IsCharBoundary name to

abbrev pub is_space_byte : ℕ → Bool
is_space_byte byte = byte == space

-- neither a space nor a comma
abbrev pub is_inner : ℕ → Bool
is_inner byte = not (byte == space) && not (byte == comma)
