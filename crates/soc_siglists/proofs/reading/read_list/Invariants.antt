use Rattle.std.proofs.Common.{◌+◌, ◌≤◌, length}
use Rattle.soc_siglists.specs.inner.OneFile.{ReadsOn}
use Rattle.soc_siglists.proofs.reading.read_list.Given as goal

-- where the reader stands; no more lines were counted than there are bytes, and no fault is forgotten
abbrev pub invariant-loop-rest : goal.invariant-loop-rest
invariant-loop-rest g l = record {
  reads_on : ReadsOn l.fn.bytes l.patterns.items l.line l.rest;
  counted : l.line + length l.rest ≤ length l.fn.bytes + 1;
  never_fall : g.P.CountsFaults.faults l.fn.maker ≤ g.P.CountsFaults.faults l.maker;
}

abbrev pub decreases-loop-rest : goal.decreases-loop-rest
decreases-loop-rest g l = length l.rest
