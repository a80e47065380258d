use Rattle.std.proofs.Common.{◌≤◌, ◌+◌, arith}
use Rattle.soc_hall.proofs.tests.fn.run.map_vec.Goals as goal

pub ask_all-requires : goal.ask_all-requires
ask_all-requires g c = let few : c.args.asker.from + 10000 ≤ 1000000 = c.requires.2 in let count : c.captures.count ≤ 10000 = c.requires.3 in record { seat = (c.requires.0, c.requires.1); below = omega arith }
