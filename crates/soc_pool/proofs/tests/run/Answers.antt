use Rattle.std.specs.Prelude.{Some}
use Rattle.std.proofs.lemmas.List.Elements.{All-pop, All-weaker}
use Rattle.soc_pool.specs.Passes.{passes_in, IsPassOf, IsNew}
use Rattle.soc_pool.proofs.tests.run.Goals as goal

pub workers_of-requires-clause-passes : goal.workers_of-requires-clause-passes
workers_of-requires-clause-passes g c = let jobs = c.in_ok-ring.ring in
    All-weaker (λ pass. IsPassOf jobs pass × IsNew pass) (λ pass. IsPassOf jobs pass) (λ pass h. h.0) _
    (All-pop (λ pass. IsPassOf jobs pass × IsNew pass) (passes_in c.in_ok-ring.passes) (passes_in c.pop.new.self) (Some c.in-Some.last) c.in-Some.ensures.popped c.in_ok-ring.ensures.each).0
