use Rattle.std.proofs.Common.{◌+◌, ◌*◌}
use Rattle.std.proofs.lemmas.List.{take_rest}
use Rattle.std.proofs.lemmas.Result.{err_from_is_err_and}
use Rattle.soc_dump.specs.Entries.{module_of, module_checks}
use Rattle.soc_dump.specs.Views.{module_entry}
use Rattle.soc_dump.proofs.ListLemmas.{entry_refused, entry_read, list_refused}
use Rattle.soc_dump.proofs.modules.read_modules.Goals as goal

pub returns-in_err-loaded : goal.returns-in_err-loaded
returns-in_err-loaded c =
    let file = c.args.file.now in
    let list = c.in_ok-list.list in
    let found = rw (take_rest file (list.first + c.loop-index.index * 108)) at c.in_err-loaded.ensures in
    let refused = entry_refused module_entry (module_of file) (module_checks file) file list.first 108 list.count c.loop-index.index
    c.loop-index-test.true c.loop-index.modules.items c.loop-index.invariant c.in_err-loaded.field-0.0 found in
    let p = err_from_is_err_and c.from_residual-in_err-loaded.result c.from_residual-in_err-loaded.ensures.1 in
    rw (p.1, p.2) (list_refused _ (module_checks file) _ _ c.in_err-loaded.field-0.0 c.in_ok-list.ensures.0 c.in_ok-list.ensures.1.0 refused)

pub loop-index-preserved : goal.loop-index-preserved
loop-index-preserved c =
    let file = c.args.file.now in
    let list = c.in_ok-list.list in
    let found = rw (take_rest file (list.first + c.loop-index.index * 108)) at c.in_ok-loaded.ensures in
    rw c.in_ok-push.ensures.items (entry_read module_entry (module_of file) (module_checks file) file list.first 108 list.count c.loop-index.index
    c.loop-index-test.true c.loop-index.modules.items c.loop-index.invariant c.in_ok-loaded.loaded found)
