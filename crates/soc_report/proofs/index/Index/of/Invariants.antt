use Rattle.std.proofs.Common.{◌≤◌, length, map}
use Rattle.soc_report.specs.inner.Index.{IsChain}
use Rattle.soc_report.specs.inner.Kits.{ids_of}
use Rattle.soc_report.specs.inner.Reading.{symbol_view}
use Rattle.soc_report.proofs.index.Index.of.Given as goal

-- the chains of the symbol files from this place on
abbrev pub invariant-loop-place : goal.invariant-loop-place
invariant-loop-place l = record {
  within : l.place ≤ length l.symbols;
  chain : IsChain (ids_of (map symbol_view l.symbols)) l.place l.index.first l.index.next.items;
}

abbrev pub decreases-loop-place : goal.decreases-loop-place
decreases-loop-place l = l.place
