use Rattle.soc_dump.specs.Layout.{system_stream}
use Rattle.soc_dump.proofs.DirectoryLemmas.{find-inside}
use Rattle.soc_dump.proofs.streams.find_system.Goals as goal

pub read_system-requires : goal.read_system-requires
read_system-requires c = find-inside c.args.file.now system_stream c.args.streams.now c.in-Some.stream c.requires c.in-Some.ensures
