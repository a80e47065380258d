use Rattle.std.proofs.Common.{◌≡◌, ◌<◌, ℕ, length, vec_len}
use denote.Text.{Utf8}
use denote.Shadow.{shadow}
use Rattle.std.specs.Option.{option_or}
use Rattle.soc_cfi.specs.Rules.{rule_of, rules_of}
use Rattle.soc_cfi.specs.Views.{name_at, rule_at}
use Rattle.soc_cfi.proofs.texts.with_rules.Given as goal

abbrev pub invariant-loop-later : goal.invariant-loop-later
invariant-loop-later l = record {
  utf8 : shadow (Utf8 l.rest);
  len : vec_len l.found ≡ length l.names;
  each : (i : ℕ) → i < length l.names → option_or (rule_of (rules_of l.text) (name_at l.names i)) (rule_at l.initial.found.items i)
      ≡ option_or (rule_of (rules_of l.rest) (name_at l.names i)) (rule_at l.found.items i);
}

abbrev pub decreases-loop-later : goal.decreases-loop-later
decreases-loop-later l = length l.rest
