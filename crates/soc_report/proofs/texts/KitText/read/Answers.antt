use Rattle.std.proofs.Common.{◌≡◌, ◌∙◌, List, ℕ, Some, ap, map, sym, subst, codes}
use Rattle.std.specs.Prelude.{IfSome, Err}
use Rattle.std.proofs.lemmas.Result.{err_from_is_err_and}
use Rattle.soc_report.specs.Texts.{Files, IsReadFrom, KitTexts, text_at, symbols_list, paths_in}
use Rattle.soc_report.specs.inner.Reading.{symbol_view, AreThere, RefusesPaths, RefusesSymbols}
use Rattle.soc_report.proofs.TreeLemmas.{looks_on, carried, both, one, read_no_list, read_refused, read_told}
use Rattle.soc_report.proofs.texts.KitText.read.Goals as goal

pub returns-in_err-paths-clause-gives : goal.returns-in_err-paths-clause-gives
returns-in_err-paths-clause-gives g c =
    let before = g.T.Tree.told c.args.tree.now in
    let to_two = looks_on before _ (g.T.Tree.told c.text_at-2.new.tree) c.in_ok-irrelevant.ensures.looks c.in_ok-prefix.ensures.looks in
    let to_three = looks_on before _ (g.T.Tree.told c.text_at-3.new.tree) to_two c.in_ok-sentinel.ensures.looks in
    let list = c.in_ok-list.list in
    let error = c.in_err-paths.field-0.0 in
    let refuses = subst (RefusesPaths error) c.as_slice.ensures c.in_err-paths.ensures.refuses in
    let p = err_from_is_err_and c.from_residual-in_err-paths.result c.from_residual-in_err-paths.ensures.1 in
    rw (p.1, p.2)
    (one (λ (files : Files). list ≡ text_at files symbols_list) (IsReadFrom (Err error)) before.files (λ files is. read_no_list error files list is refuses)
    (carried (λ (files : Files). list ≡ text_at files symbols_list) before (g.T.Tree.told c.text_at-3.new.tree) to_three c.in_ok-list.ensures.gives))

pub returns-in_err-symbols-clause-gives : goal.returns-in_err-symbols-clause-gives
returns-in_err-symbols-clause-gives g c =
    let before = g.T.Tree.told c.args.tree.now in
    let to_two = looks_on before _ (g.T.Tree.told c.text_at-2.new.tree) c.in_ok-irrelevant.ensures.looks c.in_ok-prefix.ensures.looks in
    let to_three = looks_on before _ (g.T.Tree.told c.text_at-3.new.tree) to_two c.in_ok-sentinel.ensures.looks in
    let to_four = looks_on before _ (g.T.Tree.told c.text_at-4.new.tree) to_three c.in_ok-list.ensures.looks in
    let list = c.in_ok-list.list in
    let paths = c.in_ok-paths.paths.items in
    let reads : paths_in list ≡ Some paths = ap paths_in (sym c.as_slice.ensures) ∙ c.in_ok-paths.ensures.reads in
    let error = c.in_err-symbols.field-0.0 in
    let p = err_from_is_err_and c.from_residual-in_err-symbols.result c.from_residual-in_err-symbols.ensures.1 in
    rw (p.1, p.2)
    (both (λ (files : Files). list ≡ text_at files symbols_list) (λ (files : Files). RefusesSymbols error files c.as_slice-2.result.now) (IsReadFrom (Err error)) before.files
    (λ files is refuses. read_refused error files list paths is reads (subst (RefusesSymbols error files) c.as_slice-2.ensures.value refuses))
    (carried (λ (files : Files). list ≡ text_at files symbols_list) before (g.T.Tree.told c.text_at-3.new.tree) to_three c.in_ok-list.ensures.gives)
    (carried (λ (files : Files). RefusesSymbols error files c.as_slice-2.result.now) before (g.T.Tree.told c.text_at-4.new.tree) to_four c.in_err-symbols.ensures.refuses))

pub returns-clause-gives : goal.returns-clause-gives
returns-clause-gives g c =
    let before = g.T.Tree.told c.args.tree.now in
    let to_two = looks_on before _ (g.T.Tree.told c.text_at-2.new.tree) c.in_ok-irrelevant.ensures.looks c.in_ok-prefix.ensures.looks in
    let to_three = looks_on before _ (g.T.Tree.told c.text_at-3.new.tree) to_two c.in_ok-sentinel.ensures.looks in
    let to_four = looks_on before _ (g.T.Tree.told c.text_at-4.new.tree) to_three c.in_ok-list.ensures.looks in
    let list = c.in_ok-list.list in
    let paths = c.in_ok-paths.paths.items in
    let symbols = map symbol_view c.in_ok-symbols.symbols.items in
    let texts : KitTexts = record { irrelevant = c.in_ok-irrelevant.irrelevant; prefix = c.in_ok-prefix.prefix; sentinel = c.in_ok-sentinel.sentinel; symbols = symbols } in
    let reads : paths_in list ≡ Some paths = ap paths_in (sym c.as_slice.ensures) ∙ c.in_ok-paths.ensures.reads in
    read_told before.files texts list paths c.in_ok-irrelevant.ensures.gives
    (carried (λ (files : Files). texts.prefix ≡ text_at files (codes "prefix.txt")) before (g.T.Tree.told c.text_at.new.tree) c.in_ok-irrelevant.ensures.looks c.in_ok-prefix.ensures.gives)
    (carried (λ (files : Files). texts.sentinel ≡ text_at files (codes "sentinel.txt")) before (g.T.Tree.told c.text_at-2.new.tree) to_two c.in_ok-sentinel.ensures.gives)
    (carried (λ (files : Files). list ≡ text_at files symbols_list) before (g.T.Tree.told c.text_at-3.new.tree) to_three c.in_ok-list.ensures.gives) reads
    (carried (λ (files : Files). AreThere files paths symbols) before (g.T.Tree.told c.text_at-4.new.tree) to_four
    (subst (λ (ps : List (List ℕ)). IfSome (g.T.Tree.told c.text_at-4.new.tree).files (λ (files : Files). AreThere files ps symbols)) c.as_slice-2.ensures.value c.in_ok-symbols.ensures.gives))
