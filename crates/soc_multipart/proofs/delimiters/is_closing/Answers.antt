use Rattle.soc_multipart.proofs.DelimiterLemmas.{closing_by_parts}
use Rattle.soc_multipart.proofs.delimiters.is_closing.Goals as goal

pub returns : goal.returns
returns c = closing_by_parts _ _ _ _ _ c.in-Some.ensures c.split_blanks.ensures c.ends_line.ensures
