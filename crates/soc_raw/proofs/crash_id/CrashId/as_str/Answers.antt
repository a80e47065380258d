use Rattle.soc_raw.proofs.Ids.{id_utf8}
use Rattle.soc_raw.proofs.crash_id.CrashId.as_str.Goals as goal

pub unreachable-requires : goal.unreachable-requires
unreachable-requires c = c.in-Err.ensures.cases.0 (id_utf8 _ c.self.invariant)
