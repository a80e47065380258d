use Rattle.std.proofs.Common.{◌∙◌, ap, List}
use Rattle.soc_symfile.proofs.TableLemmas.{part_laid, part_held}
use Rattle.soc_symfile.specs.Line.{ExtentEntry, LabelEntry}
use Rattle.soc_symfile.specs.inner.Tables.{records_held, with_inits}
use Rattle.soc_symfile.specs.Views.{label_entry}
use Rattle.soc_symfile.proofs.tables.Tables.add_delta.Goals as goal

pub invariant_of-self-2 : goal.invariant_of-self-2
invariant_of-self-2 c = record {
  inits = part_laid _ _ _ _ c.args.label c.len.result c.in_ok-push.ensures.items (c.len.ensures ∙ c.push.new.self.ok.0) c.extend_last.ensures c.self.invariant.inits;
  functions = c.self.invariant.functions;
}

pub returns : goal.returns
returns c =
    let held = part_held label_entry _ _ _ _ c.args.label c.len.result c.in_ok-push.ensures.items (c.len.ensures ∙ c.push.new.self.ok.0) c.extend_last.ensures c.self.invariant.inits in
    rw (← c.self.view_is) (ap (λ (is : List (ExtentEntry × List LabelEntry)). with_inits (records_held c.self.inside) is) held)
