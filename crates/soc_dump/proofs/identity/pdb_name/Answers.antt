use Rattle.std.proofs.Common.{◌∙◌, ap}
use Rattle.std.proofs.lemmas.List.{take_rest}
use Rattle.soc_text.specs.Paths.{base_name_of}
use Rattle.soc_dump.proofs.identity.pdb_name.Goals as goal

pub returns : goal.returns
returns c = c.name_of.ensures ∙ ap base_name_of (rw (take_rest c.args.bytes.now 24) at c.before_nul.ensures)
