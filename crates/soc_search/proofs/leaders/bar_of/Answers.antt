use Rattle.std.proofs.Common.{◌∙◌, ap, sym, map}
use Rattle.std.specs.Option.{option_copied}
use Rattle.soc_search.specs.inner.Selections.{as_term}
use Rattle.soc_search.proofs.LeaderLemmas.{last_bar, no_bar}
use Rattle.soc_search.proofs.leaders.bar_of.Goals as goal

pub returns-in-Some-clause-below : goal.returns-in-Some-clause-below
returns-in-Some-clause-below c = last_bar c.args.kept.now c.in-Some.last.now (sym c.last.ensures.value ∙ ap option_copied c.in-Some.is) c.requires

pub returns-in_default-clause-below : goal.returns-in_default-clause-below
returns-in_default-clause-below c = no_bar (map as_term c.args.kept.now)
