use Rattle.std.specs.Prelude.{slice_get}
use Rattle.soc_step.proofs.FillLemmas.{Fills}
use Rattle.soc_step.proofs.values.known_values.Given as goal

abbrev pub invariant-loop-place : goal.invariant-loop-place
invariant-loop-place l = Fills (slice_get l.registers) l.values l.place
