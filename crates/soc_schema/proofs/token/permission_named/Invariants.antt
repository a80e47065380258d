use Rattle.std.proofs.Common.{◌≡◌, drop, bytes_eq}
use Rattle.std.specs.List.{find}
use Rattle.soc_schema.specs.Permits.{permission_name}
use Rattle.soc_schema.proofs.token.permission_named.Given as goal

abbrev pub invariant-loop-permission : goal.invariant-loop-permission
invariant-loop-permission l =
    find (λ p. bytes_eq (permission_name p) l.word) (drop l.permission-index l.permission-items) ≡ find (λ p. bytes_eq (permission_name p) l.word) l.permission-items
