use Rattle.soc_dump.specs.Layout.{exception_stream}
use Rattle.soc_dump.proofs.DirectoryLemmas.{find-inside}
use Rattle.soc_dump.proofs.streams.find_exception.Goals as goal

pub read_exception-requires : goal.read_exception-requires
read_exception-requires c = find-inside c.args.file.now exception_stream c.args.streams.now c.in-Some.stream c.requires c.in-Some.ensures
