use Rattle.std.proofs.Common.{◌∙◌, ap, ◌%◌}
use Rattle.std.specs.Prelude.{◌||◌}
use Rattle.soc_search.specs.inner.Places.{has}
use Rattle.soc_search.proofs.BitLemmas.{none_there}
use Rattle.soc_search.proofs.SelectionLemmas.{inn}
use Rattle.soc_search.proofs.places.PlaceSet.of.Goals as goal

pub returns : goal.returns
returns c =
    λ p. c.in_ok-add_all.ensures p ∙ ap (λ b. b || inn p c.args.places.now) (ap (λ s. has s p) c.new-set.ensures ∙ none_there (p % 65536))
