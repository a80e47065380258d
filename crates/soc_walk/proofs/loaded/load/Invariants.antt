use Rattle.std.proofs.Common.{◌≡◌, map, take}
use Rattle.soc_dump.specs.Views.{module_entry}
use Rattle.soc_walk.specs.Process.{loaded_with}
use Rattle.soc_walk.specs.Views.{loaded_entry}
use Rattle.soc_walk.proofs.loaded.load.Given as goal

-- the modules so far stand there with their symbols
abbrev pub invariant-loop-entry : goal.invariant-loop-entry
invariant-loop-entry g l =
    map loaded_entry l.loaded.items ≡ map (loaded_with (g.Y.Symbols.symbols l.symbols)) (map module_entry (take l.entry-index l.entries))
