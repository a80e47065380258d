use Rattle.std.proofs.Common.{◌≡◌, map}
use Rattle.form_urlencoded.specs.Parse.{owned_pairs_left}
use Rattle.soc_http.specs.Query.{decoded_pair, first_value, query_pairs}
use Rattle.soc_http.proofs.query.first_value_in.Given as goal

-- what is found is among those that are left
abbrev pub invariant-loop-pair : goal.invariant-loop-pair
invariant-loop-pair l = first_value l.name (map decoded_pair (owned_pairs_left l.pair-iterator)) ≡ first_value l.name (query_pairs l.query)
