-- What a list's pattern is, and which frames it matches (this project's profile: regular expressions in the syntax of
-- Rust's regex crate, with its default options).
use Rattle.std.specs.Prelude.{ℕ, ◌==◌, ◌&&◌, nat_le, Bool, false, List}
use Rattle.std.specs.Option.{option_map_or}
use Rattle.std.specs.Str.{chars, is_utf8}
use Rattle.regex_syntax.specs.Grammar.{read}
use Rattle.regex.specs.Patterns.{default_config, find_str}

-- the grammar reads a pattern in the text, nested no deeper than the limit
unfoldable pub is_pattern : List ℕ → Bool
is_pattern text =
    is_utf8 text && option_map_or (λ found. nat_le found.0.depth default_config.nest_limit) (read default_config (chars text)) false

-- the pattern's leftmost match in the frame begins where the frame does
unfoldable pub matches_start : List ℕ → List ℕ → Bool
matches_start frame text =
    option_map_or (λ found. option_map_or (λ m. m.start == 0) (find_str found.0.value frame 0) false) (read default_config (chars text)) false
