use Rattle.std.proofs.Common.{◌∙◌, arith}
use Rattle.soc_symfile.proofs.TableLemmas.{last_changed}
use Rattle.soc_symfile.proofs.owners.extend_last.Goals as goal

pub returns : goal.returns
returns c = last_changed _ _ _ c.args.end (c.len-last.ensures ∙ c.args.owners.now.ok.0) (omega arith) c.index_mut.ensures.value
