use Rattle.std.proofs.Common.{◌+◌}
use Rattle.std.proofs.lemmas.List.{take_rest}
use Rattle.soc_dump.proofs.IdentityLemmas.{name-some, name-none}
use Rattle.soc_dump.proofs.identity.name_of.Goals as goal

pub returns-in-Some : goal.returns-in-Some
returns-in-Some c = rw (take_rest c.args.path.now (c.in-Some.place + 1)) (name-some c.args.path.now c.in-Some.place c.in-Some.ensures)

pub returns-in-None : goal.returns-in-None
returns-in-None c = name-none c.args.path.now c.in-None.ensures
