use Rattle.std.proofs.Common.{◌≡◌}
use Rattle.soc_http.specs.Query.{first_value}
use Rattle.soc_http.proofs.query.first_value.Given as goal

-- what is found is among those that are left
abbrev pub invariant-loop-pair_name : goal.invariant-loop-pair_name
invariant-loop-pair_name l = first_value l.name l.pair_name-iterator ≡ first_value l.name l.pairs
