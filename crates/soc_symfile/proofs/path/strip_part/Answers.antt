use Rattle.std.proofs.Common.{codes}
use Rattle.soc_symfile.proofs.PathLemmas.{part_behind}
use Rattle.soc_symfile.proofs.path.strip_part.Goals as goal

pub returns : goal.returns
returns c =
    let begins = rw c.as_bytes.ensures.value at c.in-Some.ensures in
    part_behind c.args.path.now c.args.part.now c.in-Some.rest.now (codes "/") c.strip_front-2.result begins c.strip_front-2.ensures
