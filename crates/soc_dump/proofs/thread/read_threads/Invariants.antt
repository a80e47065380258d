use Rattle.std.proofs.Common.{◌+◌, ◌-◌, ◌*◌}
use Rattle.soc_dump.specs.Entries.{thread_of, thread_checks}
use Rattle.soc_dump.specs.Dump.{entries_from}
use Rattle.soc_dump.specs.Views.{thread_entry}
use Rattle.soc_dump.proofs.ListLemmas.{Reading}
use Rattle.soc_dump.proofs.thread.read_threads.Given as goal

abbrev pub invariant-loop-index : goal.invariant-loop-index
invariant-loop-index l =
    Reading thread_entry (thread_of l.file) (thread_checks l.file) (entries_from l.file l.list.first 48 l.list.count)
    (entries_from l.file (l.list.first + l.index * 48) 48 (l.list.count - l.index)) l.threads.items
