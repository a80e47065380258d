use Rattle.std.proofs.Common.{nat_eq}
use Rattle.std.specs.List.{list_any}
use Rattle.soc_search.proofs.HitLemmas.{Keeps}
use Rattle.soc_search.proofs.hits.columns_of.Given as goal

abbrev pub invariant-loop-field : goal.invariant-loop-field
invariant-loop-field l = Keeps (λ c. list_any (λ f. nat_eq f c.field) l.columns) l.row l.field-iterator l.shown
