use Rattle.std.proofs.Common.{arith, rules}
use Rattle.soc_made.proofs.DumpLemmas.{padded-resized}
use Rattle.soc_made.proofs.dump.pad.Goals as goal

pub returns : goal.returns
returns c = padded-resized _ _ c.args.place _ c.max.result (search rules) (omega arith) (omega arith) c.in_ok-resize.ensures.items
