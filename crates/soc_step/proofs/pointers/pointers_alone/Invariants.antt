use Rattle.soc_step.specs.Step.{pointer_at}
use Rattle.soc_step.proofs.FillLemmas.{Fills}
use Rattle.soc_step.specs.Views.{machine_of}
use Rattle.soc_step.proofs.pointers.pointers_alone.Given as goal

abbrev pub invariant-loop-place : goal.invariant-loop-place
invariant-loop-place l = Fills (pointer_at (machine_of l.machine) l.ip l.sp l.fp) l.values l.place
