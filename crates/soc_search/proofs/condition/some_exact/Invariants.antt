use Rattle.std.proofs.Common.{◌≡◌, drop, map}
use denote.Ref.{Bor}
use Rattle.std.specs.List.{list_any}
use Rattle.soc_query.specs.declared.condition.Condition.{Condition}
use Rattle.soc_query.specs.Answers.{is_exact}
use Rattle.soc_search.proofs.condition.some_exact.Given as goal

abbrev pub invariant-loop-condition : goal.invariant-loop-condition
invariant-loop-condition l =
    list_any is_exact (map (λ (d : Bor Condition). d.now) (drop l.condition-index l.asked)) ≡ list_any is_exact (map (λ (d : Bor Condition). d.now) l.asked)
