use Rattle.std.proofs.Common.{◌≡◌}
use Rattle.soc_pool.specs.Passes.{seen_of, fulls_of, IsPassOf}
use Rattle.soc_pool.proofs.jobs.Jobs.next.Given as goal

abbrev pub invariant-loop : goal.invariant-loop
invariant-loop g l = IsPassOf l.self l.pass × (seen_of l.pass ≡ seen_of l.initial.pass) × (fulls_of l.pass ≡ fulls_of l.initial.pass)
