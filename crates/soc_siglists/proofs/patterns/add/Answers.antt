use Rattle.std.proofs.Common.{sym}
use Rattle.soc_siglists.proofs.Fronts.{names_with}
use Rattle.soc_siglists.proofs.patterns.add.Goals as goal

pub returns : goal.returns
returns c = λ frame. rw c.in_ok-set.ensures.ok (names_with c.args.names.now c.args.name c.in_ok-of.field-0 frame)
