use Rattle.std.proofs.Common.{◌≡◌, ◌<◌, ◌&&◌, ℕ, cond, length, vec_len, Some}
use Rattle.std.specs.Prelude.{nat_lt}
use Rattle.std.specs.Str.{bytes_eq}
use Rattle.soc_cfi.specs.Views.{name_at, rule_at}
use Rattle.soc_cfi.proofs.texts.with_rule.Given as goal

abbrev pub invariant-loop-i : goal.invariant-loop-i
invariant-loop-i l = record {
  len : vec_len l.found ≡ length l.names;
  each : (k : ℕ) → k < length l.names → rule_at l.found.items k ≡ cond (nat_lt k l.i && bytes_eq l.register (name_at l.names k)) (Some l.rule) (rule_at l.initial.found.items k);
}
