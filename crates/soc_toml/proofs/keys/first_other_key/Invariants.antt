use Rattle.std.proofs.Common.{◌≡◌, map}
use Rattle.toml.specs.View.{members_view}
use Rattle.soc_toml.specs.Keys.{first_other}
use Rattle.soc_toml.proofs.keys.first_other_key.Given as goal

abbrev pub invariant-loop-key : goal.invariant-loop-key
invariant-loop-key l =
    first_other (map (λ name. name.now) l.names) (members_view l.table.entries) ≡ first_other (map (λ name. name.now) l.names) (members_view l.key-iterator)
