use Rattle.std.proofs.Common.{Contains, map, take}
use denote.Ref.{Bor}
use Rattle.soc_query.specs.declared.condition.Condition.{Condition}
use Rattle.soc_search.proofs.condition.is_among.Given as goal

abbrev pub invariant-loop-other : goal.invariant-loop-other
invariant-loop-other l = ¬ (Contains (map (λ (d : Bor Condition). d.now) (take l.other-index l.asked)) l.condition)
