use Rattle.std.proofs.Common.{◌≡◌, ◌+◌, ◌-◌, ◌*◌}
use Rattle.soc_report.specs.Dumps.{lists_modules}
use Rattle.soc_report.proofs.StreamLemmas.{has_modules}
use Rattle.soc_report.proofs.streams.lists_modules.Given as goal

-- none of the entries so far names a list of modules
abbrev pub invariant-loop-index : goal.invariant-loop-index
invariant-loop-index l = lists_modules l.bytes ≡ has_modules l.bytes (l.directory + l.index * 12) (l.count - l.index)
