use Rattle.std.proofs.Common.{arith}
use Rattle.soc_base.proofs.Cursors.{front_back}
use Rattle.soc_base.proofs.cursor.Cursor.u64.Goals as goal

pub returns-clause-takes : goal.returns-clause-takes
returns-clause-takes c = (
  omega arith,
  front_back 8 c.self.inside.rest.now c.args.self.now c.in-Some.front.now c.in-Some.rest.now _ c.self.view_is c.in-Some.ensures.cases.0 c.in-Some.ensures.cases.1 c.u64_of.ensures.text,
)
