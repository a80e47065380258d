use Rattle.std.proofs.Common.{sym, ◌∙◌}
use Rattle.soc_export.proofs.KeyLemmas.{visible_key}
use Rattle.soc_export.proofs.key.key_of.Goals as goal

pub unreachable-requires : goal.unreachable-requires
unreachable-requires c = c.in-Err.ensures.cases.0 (visible_key c.args.line.now (sym c.is_key.ensures ∙ c.if-not-is_key.false))
