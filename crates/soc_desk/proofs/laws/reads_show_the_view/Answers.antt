use Rattle.std.proofs.Common.{ap}
use Rattle.soc_desk.specs.Reads.{read_reply}
use Rattle.soc_desk.proofs.laws.reads_show_the_view.Goals as goal

pub returns : goal.returns
returns c = λ basis basis' log log' caller command same. ap (λ view. read_reply view command) same
