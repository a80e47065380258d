use Rattle.std.proofs.Common.{◌+◌, ◌*◌}
use Rattle.std.proofs.lemmas.List.{take_rest}
use Rattle.std.proofs.lemmas.Result.{err_from_is_err_and}
use Rattle.soc_dump.specs.Entries.{memory_of, memory_checks}
use Rattle.soc_dump.specs.Views.{memory_entry}
use Rattle.soc_dump.proofs.ListLemmas.{entry_refused, entry_read, list_refused}
use Rattle.soc_dump.proofs.memory.read_memory.Goals as goal

pub returns-in_err-region : goal.returns-in_err-region
returns-in_err-region c =
    let file = c.args.file.now in
    let list = c.in_ok-list.list in
    let found = rw (take_rest file (list.first + c.loop-index.index * 16)) at c.in_err-region.ensures in
    let refused = entry_refused memory_entry (memory_of file) (memory_checks file) file list.first 16 list.count c.loop-index.index
    c.loop-index-test.true c.loop-index.regions.items c.loop-index.invariant c.in_err-region.field-0.0 found in
    let p = err_from_is_err_and c.from_residual-in_err-region.result c.from_residual-in_err-region.ensures.1 in
    rw (p.1, p.2) (list_refused _ (memory_checks file) _ _ c.in_err-region.field-0.0 c.in_ok-list.ensures.0 c.in_ok-list.ensures.1.0 refused)

pub loop-index-preserved : goal.loop-index-preserved
loop-index-preserved c =
    let file = c.args.file.now in
    let list = c.in_ok-list.list in
    let found = rw (take_rest file (list.first + c.loop-index.index * 16)) at c.in_ok-region.ensures in
    rw c.in_ok-push.ensures.items (entry_read memory_entry (memory_of file) (memory_checks file) file list.first 16 list.count c.loop-index.index
    c.loop-index-test.true c.loop-index.regions.items c.loop-index.invariant c.in_ok-region.region found)
