use Rattle.std.proofs.Common.{◌≡◌, cond, drop, map}
use denote.Ref.{Bor}
use Rattle.std.specs.List.{list_all}
use Rattle.std.specs.Option.{option_copied}
use Rattle.soc_query.specs.declared.condition.Condition.{Condition}
use Rattle.soc_query.specs.Answers.{is_exact}
use Rattle.soc_search.specs.inner.Selections.{are_met, is_met}
use Rattle.soc_search.proofs.condition.are_met.Given as goal

abbrev pub invariant-loop-condition : goal.invariant-loop-condition
invariant-loop-condition l =
    list_all (λ c. cond (is_exact c) l.one (is_met c (option_copied l.value))) (map (λ (d : Bor Condition). d.now) (drop l.condition-index l.asked)) ≡ are_met (map (λ (d : Bor Condition). d.now) l.asked) (option_copied l.value)
