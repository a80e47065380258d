use Rattle.std.proofs.Common.{refl, ◌∙◌}
use Rattle.soc_symfile.proofs.TableLemmas.{laid-pushed}
use Rattle.soc_symfile.proofs.tables.Tables.add_function.Goals as goal

pub invariant_of-self : goal.invariant_of-self
invariant_of-self c = record {
  functions = laid-pushed _ _ _ c.len.result _ c.push_owner.result c.push_owner.ensures.ok c.push_owner.ensures.err (c.len.ensures ∙ c.self.inside.sources.ok.0) refl refl c.self.invariant.functions;
  inits = c.self.invariant.inits;
}
