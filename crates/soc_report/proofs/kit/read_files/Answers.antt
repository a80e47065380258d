use Rattle.std.proofs.Common.{◌∙◌, ◌+◌, ◌∷◌, ◌++◌, [], List, map, take, drop, ap, sym, subst}
use Rattle.std.proofs.lemmas.Result.{err_from_is_err_and}
use Rattle.soc_symfile.specs.Records.{Records}
use Rattle.soc_report.specs.declared.texts.SymbolFile.{SymbolFile}
use Rattle.soc_report.specs.Texts.{SymbolText}
use Rattle.soc_report.specs.inner.Kits.{HaveRecords}
use Rattle.soc_report.specs.inner.Reading.{symbol_view}
use Rattle.soc_report.proofs.LookupLemmas.{have_more, refused_behind}
use Rattle.soc_report.proofs.NoteLemmas.{map_cut, map_more}
use Rattle.soc_report.proofs.kit.read_files.Goals as goal

pub returns-in_err-read_file-clause-refuses : goal.returns-in_err-read_file-clause-refuses
returns-in_err-read_file-clause-refuses c =
    let files = c.args.symbols.now in
    let place = c.loop-symbol.symbol-index in
    let item = c.symbol-item.result in
    let rest = map symbol_view (drop (place + 1) files) in
    let whole = map_cut symbol_view files place item c.loop-symbol-test.true
    ∙ ap (λ (f : SymbolFile). map symbol_view (take place files) ++ symbol_view f ∷ rest) (sym c.symbol-item.is) in
    let p = err_from_is_err_and c.from_residual-in_err-read_file.result c.from_residual-in_err-read_file.ensures.1 in
    rw (p.1, p.2) (refused_behind (map symbol_view (take place files)) c.loop-symbol.files.items (symbol_view item) rest (map symbol_view files) c.in_err-read_file.field-0.0 whole c.loop-symbol.invariant c.in_err-read_file.ensures)

pub loop-symbol-preserved : goal.loop-symbol-preserved
loop-symbol-preserved c =
    let files = c.args.symbols.now in
    let place = c.loop-symbol.symbol-index in
    let item = c.symbol-item.result in
    let more = map_more symbol_view files place item c.loop-symbol-test.true
    ∙ ap (λ (f : SymbolFile). map symbol_view (take place files) ++ symbol_view f ∷ []) (sym c.symbol-item.is) in
    subst (λ (ss : List SymbolText). HaveRecords ss c.push.new.self.items) (sym more)
    (subst (λ (rs : List Records). HaveRecords (map symbol_view (take place files) ++ symbol_view item ∷ []) rs) (sym c.in_ok-push.ensures.items)
    (have_more (map symbol_view (take place files)) c.loop-symbol.files.items (symbol_view item) c.in_ok-read_file.field-0 c.loop-symbol.invariant c.in_ok-read_file.ensures))
