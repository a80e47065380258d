use Rattle.std.proofs.Common.{◌≡◌, map, take, count_by}
use Rattle.soc_schema.specs.Values.{values_of}
use Rattle.soc_store.specs.Stored.{places_of}
use Rattle.soc_schema.specs.Fields.{signature_field}
use Rattle.soc_search.proofs.RowLemmas.{stands_in}
use Rattle.soc_search.proofs.ranking.counts_among.Given as goal

abbrev pub invariant-loop-i : goal.invariant-loop-i
invariant-loop-i l =
    l.counts.items ≡ map (λ v. count_by (stands_in l.places) (places_of signature_field v l.store)) (take l.i (values_of signature_field l.store))
