use Rattle.std.proofs.Common.{take}
use Rattle.soc_multipart.specs.Heads.{values_of}
use Rattle.soc_multipart.specs.inner.Views.{line_texts, HasValues}
use Rattle.soc_multipart.proofs.heads.values_named.Given as goal

-- the values of the lines so far
abbrev pub invariant-loop-line : goal.invariant-loop-line
invariant-loop-line l = HasValues (values_of l.name (line_texts (take l.line-index l.lines))) l.found
