-- A text, word by word.
use Rattle.std.specs.Prelude.{◌≡◌, ◌<◌, ℕ, List, ◌∷◌, length}
use Rattle.std.specs.Str.{IsUtf8}
use Rattle.soc_sigrules.specs.Spaces.{words}

-- the first word, and what stands behind it
pub record IsFirstWord (text word rest : List ℕ) : Type 0 where
  pub first : words text ≡ word ∷ words rest
  pub some : 0 < length word
  pub shorter : length rest < length text
  pub utf8 : IsUtf8 rest
