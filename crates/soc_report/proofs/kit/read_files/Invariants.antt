use Rattle.std.proofs.Common.{map, take}
use Rattle.soc_report.specs.inner.Kits.{HaveRecords}
use Rattle.soc_report.specs.inner.Reading.{symbol_view}
use Rattle.soc_report.proofs.kit.read_files.Given as goal

-- the symbol files so far were read
abbrev pub invariant-loop-symbol : goal.invariant-loop-symbol
invariant-loop-symbol l = HaveRecords (map symbol_view (take l.symbol-index l.symbols)) l.files.items
