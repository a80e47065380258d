use Rattle.std.proofs.Common.{◌+◌, ◌≤◌, length, All}
use Rattle.soc_pool.specs.Passes.{passes_in, IsPassOf}
use Rattle.soc_pool.proofs.tests.workers_of.Given as goal

abbrev pub invariant-loop-pass : goal.invariant-loop-pass
invariant-loop-pass l = record {
  passes : All (λ pass. IsPassOf l.jobs pass) (passes_in l.passes);
  few : length l.workers.items + length (passes_in l.passes) ≤ 64;
  workers : All (λ worker. IsPassOf l.jobs worker.pass × (worker.from ≤ 64000000)) l.workers.items;
}

abbrev pub decreases-loop-pass : goal.decreases-loop-pass
decreases-loop-pass l = length (passes_in l.passes)
