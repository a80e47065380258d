use Rattle.std.proofs.Common.{◌≡◌, ◌++◌, map}
use Rattle.form_urlencoded.specs.Parse.{owned_pairs_left}
use Rattle.soc_http.specs.Query.{decoded_pair, query_pairs}
use Rattle.soc_http.proofs.query.pairs_of.Given as goal

abbrev pub invariant-loop-pair : goal.invariant-loop-pair
invariant-loop-pair l = l.pairs ++ map decoded_pair (owned_pairs_left l.pair-iterator) ≡ query_pairs l.query
