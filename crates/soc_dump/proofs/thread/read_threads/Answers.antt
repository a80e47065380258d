use Rattle.std.proofs.Common.{◌+◌, ◌*◌}
use Rattle.std.proofs.lemmas.List.{take_rest}
use Rattle.std.proofs.lemmas.Result.{err_from_is_err_and}
use Rattle.soc_dump.specs.Entries.{thread_of, thread_checks}
use Rattle.soc_dump.specs.Views.{thread_entry}
use Rattle.soc_dump.proofs.ListLemmas.{entry_refused, entry_read, list_refused}
use Rattle.soc_dump.proofs.thread.read_threads.Goals as goal

pub returns-in_err-thread : goal.returns-in_err-thread
returns-in_err-thread c =
    let file = c.args.file.now in
    let list = c.in_ok-list.list in
    let found = rw (take_rest file (list.first + c.loop-index.index * 48)) at c.in_err-thread.ensures in
    let refused = entry_refused thread_entry (thread_of file) (thread_checks file) file list.first 48 list.count c.loop-index.index
    c.loop-index-test.true c.loop-index.threads.items c.loop-index.invariant c.in_err-thread.field-0.0 found in
    let p = err_from_is_err_and c.from_residual-in_err-thread.result c.from_residual-in_err-thread.ensures.1 in
    rw (p.1, p.2) (list_refused _ (thread_checks file) _ _ c.in_err-thread.field-0.0 c.in_ok-list.ensures.0 c.in_ok-list.ensures.1.0 refused)

pub loop-index-preserved : goal.loop-index-preserved
loop-index-preserved c =
    let file = c.args.file.now in
    let list = c.in_ok-list.list in
    let found = rw (take_rest file (list.first + c.loop-index.index * 48)) at c.in_ok-thread.ensures in
    rw c.in_ok-push.ensures.items (entry_read thread_entry (thread_of file) (thread_checks file) file list.first 48 list.count c.loop-index.index
    c.loop-index-test.true c.loop-index.threads.items c.loop-index.invariant c.in_ok-thread.thread found)
