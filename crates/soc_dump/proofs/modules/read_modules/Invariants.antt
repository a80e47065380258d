use Rattle.std.proofs.Common.{◌+◌, ◌-◌, ◌*◌}
use Rattle.soc_dump.specs.Entries.{module_of, module_checks}
use Rattle.soc_dump.specs.Dump.{entries_from}
use Rattle.soc_dump.specs.Views.{module_entry}
use Rattle.soc_dump.proofs.ListLemmas.{Reading}
use Rattle.soc_dump.proofs.modules.read_modules.Given as goal

abbrev pub invariant-loop-index : goal.invariant-loop-index
invariant-loop-index l =
    Reading module_entry (module_of l.file) (module_checks l.file) (entries_from l.file l.list.first 108 l.list.count)
    (entries_from l.file (l.list.first + l.index * 108) 108 (l.list.count - l.index)) l.modules.items
