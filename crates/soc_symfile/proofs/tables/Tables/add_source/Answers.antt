use Rattle.std.proofs.Common.{◌∙◌, ap, List}
use Rattle.soc_symfile.proofs.TableLemmas.{part_laid, part_held}
use Rattle.soc_symfile.specs.declared.entries.SourceLine.{SourceLine}
use Rattle.soc_symfile.specs.Line.{ExtentEntry}
use Rattle.soc_symfile.specs.inner.Tables.{same_line, records_held, with_functions}
use Rattle.soc_symfile.proofs.tables.Tables.add_source.Goals as goal

pub invariant_of-self-2 : goal.invariant_of-self-2
invariant_of-self-2 c = record {
  functions = part_laid _ _ _ _ c.args.line c.len.result c.in_ok-push.ensures.items (c.len.ensures ∙ c.push.new.self.ok.0) c.extend_last.ensures c.self.invariant.functions;
  inits = c.self.invariant.inits;
}

pub returns : goal.returns
returns c =
    let held = part_held same_line _ _ _ _ c.args.line c.len.result c.in_ok-push.ensures.items (c.len.ensures ∙ c.push.new.self.ok.0) c.extend_last.ensures c.self.invariant.functions in
    rw (← c.self.view_is) (ap (λ (fs : List (ExtentEntry × List SourceLine)). with_functions (records_held c.self.inside) fs) held)
