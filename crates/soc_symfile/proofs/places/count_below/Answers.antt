use Rattle.std.proofs.Common.{nat_lt, rules}
use Rattle.std.proofs.lemmas.List.Sorted.{IsPartitionPoint-from_clause, IsPartitionedBy-ltb}
use Rattle.soc_symfile.proofs.PlaceLemmas.{below_point}
use Rattle.soc_symfile.proofs.places.count_below.Goals as goal

pub returns-clause-point : goal.returns-clause-point
returns-clause-point c = λ sorted. below_point _ _ _
    (IsPartitionPoint-from_clause (λ place. nat_lt place.key c.args.key) _ _ c.partition_point.ensures.partitioned
    (IsPartitionedBy-ltb (λ place. place.key) _ c.args.key sorted) (λ a r f' called. search rules))
