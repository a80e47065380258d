use Rattle.std.proofs.Common.{◌≡◌, map, take}
use Rattle.std.specs.List.{enumerate_from}
use Rattle.soc_schema.specs.Values.{values_of}
use Rattle.soc_schema.specs.Fields.{signature_field}
use Rattle.soc_search.specs.inner.Ranks.{top_at}
use Rattle.soc_search.proofs.tops.listed.Given as goal

abbrev pub invariant-loop-i : goal.invariant-loop-i
invariant-loop-i l =
    l.tops ≡ map (top_at (values_of signature_field l.store) l.old_counts l.old_ranks) (enumerate_from 1 (take l.i l.ranking))
