use Rattle.soc_dump.specs.Layout.{memory_list}
use Rattle.soc_dump.proofs.DirectoryLemmas.{find-inside}
use Rattle.soc_dump.proofs.streams.find_memory.Goals as goal

pub read_memory-requires : goal.read_memory-requires
read_memory-requires c = find-inside c.args.file.now memory_list c.args.streams.now c.in-Some.stream c.requires c.in-Some.ensures
