use Rattle.std.proofs.Common.{length}
use Rattle.soc_multipart.specs.Chains.{Chain}
use Rattle.soc_multipart.specs.Heads.{ReadsLine}
use Rattle.soc_multipart.specs.inner.Views.{line_texts}
use Rattle.soc_multipart.proofs.heads.read_lines.Given as goal

-- the lines so far stand in the text up to the rest
abbrev pub invariant-loop-line : goal.invariant-loop-line
invariant-loop-line l = Chain ReadsLine l.text (line_texts l.lines.items) l.rest

abbrev pub decreases-loop-line : goal.decreases-loop-line
decreases-loop-line l = length l.rest
