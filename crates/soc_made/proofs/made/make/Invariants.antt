use Rattle.soc_edge.specs.Told.{Writes}
use Rattle.soc_made.specs.Made.{made_crashes}
use Rattle.soc_made.proofs.made.make.Given as goal

-- the crashes so far were written
abbrev pub invariant-loop-k : goal.invariant-loop-k
invariant-loop-k g l = Writes (g.K.Tells.told l.initial.output) (g.K.Tells.told l.output) (made_crashes l.seed l.k)
