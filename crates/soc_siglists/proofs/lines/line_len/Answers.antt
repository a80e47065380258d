use Rattle.std.proofs.Common.{sym}
use Rattle.soc_siglists.proofs.LineLemmas.{found_at, found_nowhere}
use Rattle.soc_siglists.proofs.lines.line_len.Goals as goal

pub returns-in-Some-clause-value : goal.returns-in-Some-clause-value
returns-in-Some-clause-value c = sym (found_at c.args.bytes.now c.in-Some.end c.in-Some.ensures)

pub returns-in-None-clause-value : goal.returns-in-None-clause-value
returns-in-None-clause-value c = sym (found_nowhere c.args.bytes.now c.in-None.ensures)
