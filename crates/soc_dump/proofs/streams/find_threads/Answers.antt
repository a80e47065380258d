use Rattle.soc_dump.specs.Layout.{thread_list}
use Rattle.soc_dump.proofs.DirectoryLemmas.{find-inside}
use Rattle.soc_dump.proofs.streams.find_threads.Goals as goal

pub read_threads-requires : goal.read_threads-requires
read_threads-requires c = find-inside c.args.file.now thread_list c.args.streams.now c.in-Some.stream c.requires c.in-Some.ensures
