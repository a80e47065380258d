use Rattle.std.proofs.Common.{Some}
use Rattle.soc_arm64.specs.Context.{register_at}
use Rattle.soc_arm64.proofs.FillLemmas.{Fills}
use Rattle.soc_arm64.proofs.context.registers_of.Given as goal

abbrev pub invariant-loop-place : goal.invariant-loop-place
invariant-loop-place l = Fills (λ place. Some (register_at l.context place)) l.values l.place
