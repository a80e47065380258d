use Rattle.std.proofs.Common.{◌≡◌, ◌≢◌, ℕ, ◌<◌, ◌-◌, Some, length}
use Rattle.std.specs.Prelude.{slice_get}
use Rattle.soc_symfile.specs.Path.{path_of}
use Rattle.soc_report.specs.Texts.{SymbolText}
use Rattle.soc_report.specs.inner.Kits.{HasNoSlash, ids_of}
use Rattle.soc_report.proofs.kit.Kit.place_of.Given as goal

-- no path so far is the one looked for, and the next one to look at has the id
abbrev pub invariant-loop-place : goal.invariant-loop-place
invariant-loop-place l = record {
  passed : (other : ℕ) (symbol : SymbolText) → other < l.place → slice_get l.self.symbols other ≡ Some symbol → symbol.path ≢ path_of l.debug_file l.debug_id;
  on_chain : HasNoSlash l.debug_id → l.place < length l.self.symbols → slice_get (ids_of l.self.symbols) l.place ≡ Some l.debug_id;
}

abbrev pub decreases-loop-place : goal.decreases-loop-place
decreases-loop-place l = length l.self.symbols - l.place
