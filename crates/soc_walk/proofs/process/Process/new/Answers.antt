use Rattle.std.proofs.Common.{◌∙◌, ap}
use Rattle.soc_dump.specs.Memory.{RegionWords}
use Rattle.soc_step.specs.Machine.{Machine, bytes_of}
use Rattle.soc_walk.specs.Process.{loaded_with}
use Rattle.soc_walk.proofs.PlaceLemmas.{found-in}
use Rattle.std.proofs.Common.{map}
use Rattle.soc_walk.proofs.process.Process.new.Goals as goal

pub invariant_of-result : goal.invariant_of-result
invariant_of-result g c =
    let kit = g.Y.Symbols.symbols c.args.symbols.now in
    record {
      width = ap (λ (w : RegionWords). w.width) c.in_ok-words.ensures ∙ (c.bytes.ensures.value ∙ ap (λ (m : Machine). bytes_of m.width) c.machine.ensures);
      found = λ address small. c.in_ok-table.ensures address small ∙ found-in kit c.args.dump.now.modules _ address (c.in_ok-loaded.ensures ∙ ap (map (loaded_with kit)) c.modules.ensures);
    }
