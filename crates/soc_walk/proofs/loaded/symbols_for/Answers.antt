use Rattle.std.proofs.Common.{sym}
use Rattle.soc_dump.specs.Views.{module_entry}
use Rattle.soc_walk.proofs.PlaceLemmas.{longer_none}
use Rattle.soc_walk.proofs.loaded.symbols_for.Goals as goal

pub returns-in_default : goal.returns-in_default
returns-in_default g c =
    let longer = rw c.in_default.is at c.in_ok-file.ensures in
    sym (longer_none (g.Y.Symbols.symbols c.args.symbols.now) (module_entry c.args.entry.now) c.args.longest c.requires longer)
