use Rattle.soc_collect.proofs.ServingLemmas.{no_crash-is_id}
use Rattle.soc_collect.proofs.serving.no_crash.Goals as goal

pub unreachable-requires : goal.unreachable-requires
unreachable-requires c = c.in_default.ensures no_crash-is_id
