use Rattle.soc_symfile.proofs.LineLemmas.{ended_line, last_line}
use Rattle.soc_symfile.proofs.lines.split_line.Goals as goal

pub returns-in-Some : goal.returns-in-Some
returns-in-Some c = ended_line _ _ _ _ c.in-Some.end c.in-Some.ensures c.strip_carriage_return.ensures c.before-in-Some.ensures c.after.ensures

pub returns-in-None : goal.returns-in-None
returns-in-None c = last_line _ _ c.if-is_empty.ensures c.in-None.ensures c.after-in-None.ensures
