use Rattle.std.proofs.Common.{rules}
use Rattle.std.specs.Prelude.{nat_le}
use Rattle.std.proofs.lemmas.List.Sorted.{IsPartitionPoint-from_clause, IsPartitionedBy-leb}
use Rattle.soc_symfile.proofs.PlaceLemmas.{to_point}
use Rattle.soc_symfile.proofs.places.count_to.Goals as goal

pub returns-clause-point : goal.returns-clause-point
returns-clause-point c = λ sorted. to_point _ _ _
    (IsPartitionPoint-from_clause (λ place. nat_le place.key c.args.key) _ _ c.partition_point.ensures.partitioned
    (IsPartitionedBy-leb (λ place. place.key) _ c.args.key sorted) (λ a r f' called. search rules))
