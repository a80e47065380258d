use Rattle.std.proofs.Common.{map, take}
use Rattle.std.specs.Prelude.{IfSome}
use Rattle.soc_edge.specs.Tree.{OnlyLooks}
use Rattle.soc_report.specs.inner.Reading.{symbol_view, AreThere}
use Rattle.soc_report.proofs.texts.symbol_files.Given as goal

-- the symbol files so far are there, and the tree was only looked at
abbrev pub invariant-loop-path : goal.invariant-loop-path
invariant-loop-path g l = record {
  there : IfSome (g.T.Tree.told l.fn.tree).files (λ files. AreThere files (take l.path-index l.paths) (map symbol_view l.symbols.items));
  looks : OnlyLooks (g.T.Tree.told l.fn.tree) (g.T.Tree.told l.tree);
}
