use Rattle.std.proofs.Common.{◌≡◌, drop, map}
use denote.Ref.{Bor}
use Rattle.std.specs.Option.{option_copied}
use Rattle.soc_query.specs.declared.condition.Condition.{Condition}
use Rattle.soc_search.specs.inner.Selections.{one_is_met}
use Rattle.soc_search.proofs.condition.one_is_met.Given as goal

abbrev pub invariant-loop-condition : goal.invariant-loop-condition
invariant-loop-condition l =
    one_is_met (map (λ (d : Bor Condition). d.now) (drop l.condition-index l.asked)) (option_copied l.value) ≡ one_is_met (map (λ (d : Bor Condition). d.now) l.asked) (option_copied l.value)
