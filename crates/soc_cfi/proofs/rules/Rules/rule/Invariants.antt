use Rattle.std.proofs.Common.{◌≡◌, ◌≤◌, length}
use Rattle.soc_symfile.specs.Views.{span_of}
use Rattle.soc_cfi.specs.Rules.{rule_of}
use Rattle.soc_cfi.specs.Views.{in_force}
use Rattle.soc_cfi.proofs.DeltaLemmas.{rules_up_to}
use Rattle.soc_cfi.proofs.rules.Rules.rule.Given as goal

abbrev pub invariant-loop-i : goal.invariant-loop-i
invariant-loop-i l =
    record { inside : l.i ≤ length (span_of l.self.span).deltas; same : rule_of (rules_up_to (span_of l.self.span) l.self.offset l.i) l.register ≡ rule_of (in_force l.self) l.register }
