-- What contracts see of rules, and of lists of names and rules.
use Rattle.std.specs.Prelude.{ℕ, List, Option, None, slice_index_or, slice_get, []}
use Rattle.std.specs.Borrow.{Bor}
use Rattle.std.specs.Option.{option_copied, option_map_or}
use Rattle.soc_symfile.specs.Views.{span_of}
use Rattle.soc_cfi.specs.declared.rules.Rules.{Rules}
use Rattle.soc_cfi.specs.Rules.{Rule, rules_at}

-- the rules that are in force
abbrev pub in_force : Rules → List Rule
in_force rules = rules_at (span_of rules.span) rules.offset

-- one of some names; nothing past their end
abbrev pub name_at : List (Bor (List ℕ)) → ℕ → List ℕ
name_at names i = option_map_or (λ name. name.now) (slice_get names i) []

-- one of some rules; none past their end
abbrev pub rule_at : List (Option (Bor (List ℕ))) → ℕ → Option (List ℕ)
rule_at found i = option_copied (slice_index_or found i None)
