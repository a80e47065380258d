use denote.Param.Send.{sendable}
use Rattle.std.proofs.Crossing.{crosses}
use Rattle.soc_turns.proofs.Crossing.{shared_send}
use Rattle.soc_session_tests.proofs.crew.served_by.Goals as goal

pub over-book-requires-clause-opens : goal.over-book-requires-clause-opens
over-book-requires-clause-opens g c = rw c.of-opened.ensures c.in-Ok.ensures.opens

pub serve_together-book-requires-send-T : goal.serve_together-book-requires-send-T
serve_together-book-requires-send-T g c κs within = search (sendable, crosses, shared_send) depth 300 fits 200000
