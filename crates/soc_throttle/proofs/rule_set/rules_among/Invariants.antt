use Rattle.std.proofs.Common.{◌≡◌, ◌≤◌, ◌++◌, drop}
use Rattle.toml.specs.View.{items_view}
use Rattle.soc_throttle.specs.Rules.{first_bad, rules_among}
use Rattle.soc_throttle.proofs.rule_set.rules_among.Given as goal

abbrev pub invariant-loop-place : goal.invariant-loop-place
invariant-loop-place l = record {
  early : l.place ≤ 256;
  good : first_bad 0 (items_view l.entry-items) ≡ first_bad l.place (items_view (drop l.place l.entry-items));
  so_far : rules_among (items_view l.entry-items) ≡ l.rules.items ++ rules_among (items_view (drop l.place l.entry-items));
}
