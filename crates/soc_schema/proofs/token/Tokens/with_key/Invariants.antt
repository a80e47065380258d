use Rattle.std.proofs.Common.{◌≡◌, drop, bytes_eq}
use Rattle.std.specs.List.{find}
use Rattle.soc_schema.proofs.token.Tokens.with_key.Given as goal

abbrev pub invariant-loop-token : goal.invariant-loop-token
invariant-loop-token l = find (λ t. bytes_eq t.key l.key) (drop l.token-index l.token-items) ≡ find (λ t. bytes_eq t.key l.key) l.token-items
