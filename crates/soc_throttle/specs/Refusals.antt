-- Why rules weren't read.
use Rattle.std.specs.Prelude.{◌≡◌, ℕ, Option, Some}
use Rattle.soc_throttle.specs.declared.rule_set.RuleError.{RuleError}
use Rattle.soc_throttle.specs.declared.rule_set.RuleError.TheVariants.{BadRule, NoMemory}

-- the rule that is named is the first bad one; want of memory says nothing of the entries
abbrev pub IsNamed : Option ℕ → RuleError → Type 0
IsNamed bad (BadRule index) = bad ≡ Some index
IsNamed bad NoMemory = Unit {0}
