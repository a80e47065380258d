use Rattle.std.proofs.Common.{◌≡◌, ◌∙◌, ◌+◌, ◌∷◌, ◌++◌, [], List, ℕ, map, take, drop, ap, sym, subst}
use Rattle.std.proofs.lemmas.List.{map-append}
use Rattle.std.proofs.lemmas.Result.{err_from_is_err_and}
use Rattle.soc_report.specs.Texts.{Files, SymbolText}
use Rattle.soc_report.specs.inner.Reading.{symbol_view, AreThere, IsThere, RefusesSymbol, RefusesSymbols}
use Rattle.soc_report.proofs.NoteLemmas.{cut, take_more}
use Rattle.soc_report.proofs.TreeLemmas.{looks_on, carried, both, there_more, refused_more}
use Rattle.soc_report.proofs.texts.symbol_files.Goals as goal

pub returns-in_err-symbol_file-clause-refuses : goal.returns-in_err-symbol_file-clause-refuses
returns-in_err-symbol_file-clause-refuses g c =
    let paths = c.args.paths.now in
    let place = c.loop-path.path-index in
    let path = c.as_str.result.now in
    let error = c.in_err-symbol_file.field-0.0 in
    let before = g.T.Tree.told c.args.tree.now in
    let is : path ≡ c.path-item.result = c.as_str.ensures in
    let whole : paths ≡ take place paths ++ path ∷ drop (place + 1) paths =
    cut paths place c.path-item.result c.loop-path-test.true ∙ ap (λ (p : List ℕ). take place paths ++ p ∷ drop (place + 1) paths) (sym c.path-item.is ∙ sym is) in
    let p = err_from_is_err_and c.from_residual-in_err-symbol_file.result c.from_residual-in_err-symbol_file.ensures.1 in
    rw (p.1, p.2)
    (both (λ (files : Files). AreThere files (take place paths) (map symbol_view c.loop-path.symbols.items)) (λ (files : Files). RefusesSymbol error files path) (λ (files : Files). RefusesSymbols error files paths) before.files
    (λ files are refuses. refused_more files (take place paths) paths (map symbol_view c.loop-path.symbols.items) path (drop (place + 1) paths) error whole are refuses)
    c.loop-path.invariant.there (carried (λ (files : Files). RefusesSymbol error files path) before (g.T.Tree.told c.loop-path.tree) c.loop-path.invariant.looks c.in_err-symbol_file.ensures.refuses))

pub loop-path-preserved : goal.loop-path-preserved
loop-path-preserved g c =
    let paths = c.args.paths.now in
    let place = c.loop-path.path-index in
    let path = c.as_str.result.now in
    let before = g.T.Tree.told c.args.tree.now in
    let file = symbol_view c.in_ok-symbol_file.field-0 in
    let is : path ≡ c.path-item.result = c.as_str.ensures in
    let more : take (place + 1) paths ≡ take place paths ++ path ∷ [] =
    take_more paths place c.path-item.result c.loop-path-test.true ∙ ap (λ (p : List ℕ). take place paths ++ p ∷ []) (sym c.path-item.is ∙ sym is) in
    let symbols : map symbol_view c.push.new.self.items ≡ map symbol_view c.loop-path.symbols.items ++ file ∷ [] =
    ap (map symbol_view) c.in_ok-push.ensures.items ∙ map-append symbol_view c.loop-path.symbols.items (c.in_ok-symbol_file.field-0 ∷ []) in
    record {
      there =
          both (λ (files : Files). AreThere files (take place paths) (map symbol_view c.loop-path.symbols.items)) (λ (files : Files). IsThere files path file)
          (λ (files : Files). AreThere files (take (place + 1) paths) (map symbol_view c.push.new.self.items)) before.files
          (λ files are there.
          subst (λ (ps : List (List ℕ)). AreThere files ps (map symbol_view c.push.new.self.items)) (sym more)
          (subst (λ (ss : List SymbolText). AreThere files (take place paths ++ path ∷ []) ss) (sym symbols)
          (there_more files (take place paths) (map symbol_view c.loop-path.symbols.items) path file are there)))
          c.loop-path.invariant.there (carried (λ (files : Files). IsThere files path file) before (g.T.Tree.told c.loop-path.tree) c.loop-path.invariant.looks c.in_ok-symbol_file.ensures.gives);
      looks = looks_on before (g.T.Tree.told c.loop-path.tree) _ c.loop-path.invariant.looks c.in_ok-symbol_file.ensures.looks;
    }
