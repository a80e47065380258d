use Rattle.soc_http.proofs.RouterLemmas.{reads_literal}
use Rattle.soc_http.proofs.route.add.Goals as goal

pub returns : goal.returns
returns c =
    let read = reads_literal c.args.path.now c.requires in
    let took = rw read at c.in-Ok.ensures in
    took.1
