use Rattle.std.proofs.Common.{refl}
use Rattle.soc_service.proofs.Asked.{turn_of}
use Rattle.soc_service.proofs.process.finish.Goals as goal

pub returns-clause-finish : goal.returns-clause-finish
returns-clause-finish g c = record {
  processed = c.args.processed;
  same = refl;
  receipt = c.take_turn-seat.result.1.reply;
  replied = refl;
  turn = turn_of g.T.Logged g.T.SharedDesk.command_of c.take_turn-seat.ensures.turn;
}
