use Rattle.std.proofs.Common.{◌≡◌, ◌<◌, length, vec_len, rules, arith}
use Rattle.std.proofs.lemmas.List.Elements.{All-pop}
use Rattle.soc_hall.specs.Seats.{seats_of, IsSeatOf}
use Rattle.soc_hall.proofs.close.Hall+T.close.Goals as goal

pub unreachable-requires : goal.unreachable-requires
unreachable-requires g c = let many : length c.args.seats.list.items ≡ seats_of c.args.self = c.requires.all in let some_seat : 0 < seats_of c.args.self = c.args.self.some_seat in let none : vec_len c.args.seats.list ≡ 0 = c.in_default.ensures.cases.0 in let same : length c.args.seats.list.items ≡ vec_len c.args.seats.list = search rules in omega arith

pub take_in-chair-requires-clause-others : goal.take_in-chair-requires-clause-others
take_in-chair-requires-clause-others g c = (All-pop (λ seat. IsSeatOf c.args.self seat) c.args.seats.list.items c.pop.new.self.items c.pop.result c.pop.ensures.items c.requires.seats).0
