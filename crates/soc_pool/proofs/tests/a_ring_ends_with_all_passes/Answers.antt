use Rattle.std.proofs.lemmas.List.Elements.{All-weaker}
use Rattle.soc_pool.specs.Passes.{IsNew, IsPassOf}
use Rattle.soc_pool.proofs.tests.a_ring_ends_with_all_passes.Goals as goal

pub close-end-requires-clause-each : goal.close-end-requires-clause-each
close-end-requires-clause-each c = let jobs = c.in_ok-jobs.jobs in All-weaker (λ pass. IsPassOf jobs pass × IsNew pass) (λ pass. IsPassOf jobs pass) (λ pass both. both.0) _ c.in_ok-jobs.ensures.each
