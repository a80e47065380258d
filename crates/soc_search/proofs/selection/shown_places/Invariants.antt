use Rattle.std.proofs.Common.{take}
use Rattle.soc_schema.specs.declared.value.Value.TheVariants.{Text}
use Rattle.soc_schema.specs.Fields.{product_field}
use Rattle.soc_store.specs.Stored.{places_of}
use Rattle.soc_search.specs.inner.Places.{has}
use Rattle.soc_search.proofs.SelectionLemmas.{Joins}
use Rattle.soc_search.proofs.selection.shown_places.Given as goal

abbrev pub invariant-loop-i : goal.invariant-loop-i
invariant-loop-i l = Joins (has l.set) (λ n. places_of product_field (Text n) l.store) (take l.i l.names)
