use Rattle.std.proofs.Common.{◌≡◌, ◌<◌, ℕ, length, vec_len}
use Rattle.soc_symfile.specs.Views.{span_of}
use Rattle.soc_cfi.specs.Rules.{rule_of}
use Rattle.soc_cfi.specs.Views.{name_at, rule_at}
use Rattle.soc_cfi.proofs.DeltaLemmas.{rules_up_to}
use Rattle.soc_cfi.proofs.rules.Rules.all.Given as goal

abbrev pub invariant-loop-i : goal.invariant-loop-i
invariant-loop-i l = record {
  len : vec_len l.found ≡ length l.names;
  each : (k : ℕ) → k < length l.names → rule_at l.found.items k ≡ rule_of (rules_up_to (span_of l.self.span) l.self.offset l.i) (name_at l.names k);
}
