use Rattle.std.proofs.Common.{rules}
use Rattle.std.specs.Prelude.{nat_le}
use Rattle.std.proofs.lemmas.List.Sorted.{IsPartitionPoint-from_clause, IsPartitionedBy-leb}
use Rattle.soc_dump.proofs.CoveringLemmas.{to_point}
use Rattle.soc_dump.proofs.pieces.count_to.Goals as goal

pub returns-clause-point : goal.returns-clause-point
returns-clause-point c = λ sorted. to_point _ _ _
    (IsPartitionPoint-from_clause (λ piece. nat_le piece.from c.args.x) _ _ c.partition_point.ensures.partitioned
    (IsPartitionedBy-leb (λ piece. piece.from) _ c.args.x sorted) (λ a r f' called. search rules))
