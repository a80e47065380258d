use Rattle.std.proofs.Common.{◌≤◌, length, ap, sym, arith, rules}
use Rattle.soc_edge.specs.Memory.{InputState}
use Rattle.soc_edge.proofs.Told.{copied-left}
use Rattle.soc_edge.proofs.memory.source.MemSourceSource.read.Goals as goal

pub returns-clause-reads : goal.returns-clause-reads
returns-clause-reads c =
    let fits : c.min-n.result ≤ length c.args.into.now = omega (arith, c.min-n.ensures) in
    record {
      gives = copied-left c.args.self.now.left c.self.inside.bytes c.as_slice.result.now c.copy_from_slice.new.self c.args.into.now c.self.inside.at c.min-n.result
          (sym (ap (λ (s : InputState). s.left) c.self.view_is)) c.as_slice.ensures c.copy_from_slice.ensures.after c.copy_from_slice.ensures.len fits;
      only = search rules;
    }
