use Rattle.std.proofs.Common.{◌+◌, ◌-◌, ◌*◌}
use Rattle.soc_dump.specs.Directory.{streams_named}
use Rattle.soc_dump.proofs.DirectoryLemmas.{Browsed}
use Rattle.soc_dump.proofs.directory.read_streams.Given as goal

abbrev pub invariant-loop-index : goal.invariant-loop-index
invariant-loop-index l =
    let place = l.directory.place in
    let count = l.directory.count in
    Browsed l.file (streams_named l.file place count) l.streams.items (streams_named l.file (place + l.index * 12) (count - l.index))
