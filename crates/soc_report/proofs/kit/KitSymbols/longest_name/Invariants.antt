use Rattle.std.proofs.Common.{◌≡◌, ℕ, ◌<◌, ◌≤◌, Some, length}
use Rattle.std.specs.Prelude.{slice_get}
use Rattle.soc_report.specs.Texts.{SymbolText}
use Rattle.soc_report.proofs.kit.KitSymbols.longest_name.Given as goal

-- no path so far has more bytes
abbrev pub invariant-loop-place : goal.invariant-loop-place
invariant-loop-place l = (other : ℕ) (symbol : SymbolText) → other < l.place → slice_get l.self.symbols other ≡ Some symbol → length symbol.path ≤ l.longest
