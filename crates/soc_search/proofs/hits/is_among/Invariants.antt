use Rattle.std.proofs.Common.{◌≡◌, nat_eq, drop}
use Rattle.std.specs.List.{list_any}
use Rattle.soc_search.proofs.hits.is_among.Given as goal

-- it is among those that are left exactly where it is among all
abbrev pub invariant-loop-other : goal.invariant-loop-other
invariant-loop-other l = list_any (λ f. nat_eq f l.field) (drop l.other-index l.fields) ≡ list_any (λ f. nat_eq f l.field) l.fields
