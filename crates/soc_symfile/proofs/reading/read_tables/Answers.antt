use Rattle.soc_symfile.proofs.ReadingLemmas.{no_lines, first_is_bad, behind_first}
use Rattle.soc_symfile.proofs.reading.read_tables.Goals as goal

pub returns-in_default : goal.returns-in_default
returns-in_default c = no_lines c.args.text.now c.in_default.ensures

pub returns-then-not-is_module_line : goal.returns-then-not-is_module_line
returns-then-not-is_module_line c = first_is_bad c.args.text.now _ _ c.in-Some.ensures c.if-not-is_module_line.ensures

pub returns : goal.returns
returns c = rw (behind_first c.args.text.now _ _ c.in-Some.ensures c.if-not-is_module_line.ensures) c.read_lines.ensures
