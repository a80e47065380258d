use Rattle.soc_multipart.proofs.Basics.{match_weaker}
use Rattle.soc_multipart.proofs.DelimiterLemmas.{start_not_at, start_is_at}
use Rattle.soc_multipart.proofs.delimiters.delimiter_at_start.Goals as goal

pub returns : goal.returns
returns c =
    match_weaker _ _ _ _ _ c.end_of.ensures
    (start_not_at c.args.boundary.now c.args.body.now _ _ c.in_ok-strip_front.ensures c.in_ok-after.ensures)
    (λ x. start_is_at c.args.boundary.now c.args.body.now _ _ x c.in_ok-strip_front.ensures c.in_ok-after.ensures)
