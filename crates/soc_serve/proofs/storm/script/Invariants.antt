use Rattle.std.proofs.Common.{◌≡◌}
use Rattle.soc_serve.specs.Storm.{script_of}
use Rattle.soc_serve.proofs.storm.script.Given as goal

abbrev pub invariant-loop-k : goal.invariant-loop-k
invariant-loop-k l = l.text.items ≡ script_of l.seed l.connections l.rest l.k
