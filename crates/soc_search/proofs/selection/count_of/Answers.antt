use Rattle.std.proofs.Common.{ap, sym, ◌∙◌, count_by}
use Rattle.soc_search.specs.inner.Selections.{selected}
use Rattle.soc_search.proofs.SelectionLemmas.{count_all}
use Rattle.soc_search.proofs.selection.count_of.Goals as goal

pub returns-in-None : goal.returns-in-None
returns-in-None c = sym (ap (λ s. count_by (selected s) c.args.places.now) c.in-None.is ∙ count_all c.args.places.now)
