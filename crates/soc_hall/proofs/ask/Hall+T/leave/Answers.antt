use Rattle.soc_hall.proofs.Ways.{is_done, counted_turn, counted_state}
use Rattle.soc_hall.proofs.ask.Hall+T.leave.Goals as goal

pub count-requires-clause-done : goal.count-requires-clause-done
count-requires-clause-done g c = is_done g.T.Logged.log_of g.T.Logged.basis_of g.T.Logged.answers c.args.chair.now.me c.args.length c.args.state c.args.command c.args.reply c.give.new.chair.me c.give.ensures.same.1 c.requires.after

pub pass-requires-clause-turn : goal.pass-requires-clause-turn
pass-requires-clause-turn g c = counted_turn g.T.Logged.log_of g.T.Logged.basis_of g.T.Logged.answers c.args.chair.now.me c.args.length c.args.state c.args.command c.args.reply c.give.new.chair.me c.count.new.chair.me c.give.ensures.same.1 c.count.ensures.counted c.requires.turn

pub pass-requires-clause-state : goal.pass-requires-clause-state
pass-requires-clause-state g c = counted_state g.T.Logged.log_of g.T.Logged.basis_of g.T.Logged.answers c.args.chair.now.me c.args.length c.args.state c.args.command c.args.reply c.give.new.chair.me c.count.new.chair.me c.give.ensures.same.1 c.count.ensures.counted c.requires.after
