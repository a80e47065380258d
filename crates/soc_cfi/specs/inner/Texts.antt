-- A text, part by part.
use Rattle.std.specs.Prelude.{ℕ, false, if◌then◌else◌, List, Option, None, Some}
use Rattle.std.specs.Option.{option_map_or}
use Rattle.std.specs.Str.{bytes_eq}
use Rattle.soc_cfi.specs.Rules.{named_by, rule_text}
use Rattle.soc_cfi.specs.Words.{parts}

-- the rule of a register that a part begins, of which this text stands behind the part
abbrev pub begun_by : List ℕ → List ℕ → List ℕ → Option (List ℕ)
begun_by part later register =
    if option_map_or (λ name. bytes_eq name register) (named_by part) false then Some (rule_text (parts later)) else None
