use Rattle.soc_dump.specs.Layout.{module_list}
use Rattle.soc_dump.proofs.DirectoryLemmas.{find-inside}
use Rattle.soc_dump.proofs.streams.find_modules.Goals as goal

pub read_modules-requires : goal.read_modules-requires
read_modules-requires c = find-inside c.args.file.now module_list c.args.streams.now c.in-Some.stream c.requires c.in-Some.ensures
