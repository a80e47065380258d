use Rattle.soc_serve_tests.proofs.hall.opened.Goals as goal

pub over-requires-clause-opens : goal.over-requires-clause-opens
over-requires-clause-opens c = rw c.of-opened.ensures c.in-Ok.ensures.opens
