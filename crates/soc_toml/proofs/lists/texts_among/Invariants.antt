use Rattle.std.proofs.Common.{◌≡◌, drop}
use Rattle.toml.specs.View.{items_view}
use Rattle.soc_toml.specs.Lists.{texts_among}
use Rattle.soc_toml.proofs.Arrays.{after}
use Rattle.soc_toml.proofs.lists.texts_among.Given as goal

abbrev pub invariant-loop-value : goal.invariant-loop-value
invariant-loop-value l = texts_among (items_view l.value-items) ≡ after l.texts (items_view (drop l.value-index l.value-items))
