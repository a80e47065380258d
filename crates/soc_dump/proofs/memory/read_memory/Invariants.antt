use Rattle.std.proofs.Common.{◌+◌, ◌-◌, ◌*◌}
use Rattle.soc_dump.specs.Entries.{memory_of, memory_checks}
use Rattle.soc_dump.specs.Dump.{entries_from}
use Rattle.soc_dump.specs.Views.{memory_entry}
use Rattle.soc_dump.proofs.ListLemmas.{Reading}
use Rattle.soc_dump.proofs.memory.read_memory.Given as goal

abbrev pub invariant-loop-index : goal.invariant-loop-index
invariant-loop-index l =
    Reading memory_entry (memory_of l.file) (memory_checks l.file) (entries_from l.file l.list.first 16 l.list.count)
    (entries_from l.file (l.list.first + l.index * 16) 16 (l.list.count - l.index)) l.regions.items
