use Rattle.std.proofs.Common.{◌≡◌, ◌≤◌, [], length, drop}
use Rattle.toml.specs.View.{items_view}
use Rattle.soc_schema.specs.TokenFile.{tokens_from}
use Rattle.soc_schema.proofs.token.read_array.Given as goal

abbrev pub invariant-loop-value : goal.invariant-loop-value
invariant-loop-value l =
    (tokens_from [] (items_view l.value-items) ≡ tokens_from l.tokens (items_view (drop l.value-index l.value-items))) × (length l.tokens ≤ 256)
