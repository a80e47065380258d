-- How compiled patterns stand to their texts.
use Rattle.std.specs.Prelude.{◌≡◌, ℕ, List, IsSomeAnd}
use Rattle.std.specs.Str.{chars}
use Rattle.regex_syntax.specs.Grammar.{read}
use Rattle.regex.specs.Patterns.{Re, SameCaptures, default_config}
use Rattle.regex.specs.Strings.{regex_config, IsReadFromSource}
use Rattle.regex.specs.declared.string.regex.Regex.{Regex}

-- read by the grammar from its own text, with the default options
pub record IsOwn (made : Regex) : Type 0 where
  pub config : regex_config made ≡ default_config
  pub read : IsReadFromSource made

-- it matches as the pattern that the grammar reads in the text
abbrev pub MatchesAs : List ℕ → Re → Type 0
MatchesAs text compiled = IsSomeAnd (read default_config (chars text)) (λ found. SameCaptures compiled found.0.value)
