use Rattle.std.proofs.Common.{◌≢◌, ℕ, ◌<◌}
use Rattle.soc_schema.specs.Fields.{name_of}
use Rattle.soc_schema.proofs.field.Field.named.Given as goal

abbrev pub invariant-loop-place : goal.invariant-loop-place
invariant-loop-place l = (k : ℕ) → k < l.place → name_of k ≢ l.name
