use Rattle.std.proofs.Common.{List, ℕ, ◌++◌, map, take}
use Rattle.std.specs.Prelude.{flat_map}
use Rattle.soc_report.specs.Digests.{digested_symbol}
use Rattle.soc_report.specs.inner.Reading.{symbol_view}
use Rattle.soc_report.proofs.digest.add_symbols.Given as goal

-- the symbol files so far were added
abbrev pub invariant-loop-symbol : goal.invariant-loop-symbol
invariant-loop-symbol g l =
    (before : List ℕ) → g.D.Digest.holds l.fn.hasher before → g.D.Digest.holds l.hasher (before ++ flat_map digested_symbol (map symbol_view (take l.symbol-index l.symbols)))
