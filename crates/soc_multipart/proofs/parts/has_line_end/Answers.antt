use Rattle.soc_multipart.proofs.PartLemmas.{line_end_test}
use Rattle.soc_multipart.proofs.parts.has_line_end.Goals as goal

pub returns : goal.returns
returns c = line_end_test c.args.text.now c.find.result c.is_some.result c.find.ensures c.is_some.ensures
