use Rattle.soc_multipart.specs.Delimiters.{mark_of}
use Rattle.soc_multipart.proofs.DelimiterLemmas.{begins_behind, none_behind, meets_mark, none_mark}
use Rattle.soc_multipart.proofs.delimiters.first_delimiter.Goals as goal

pub returns-in-Some-next_delimiter : goal.returns-in-Some-next_delimiter
returns-in-Some-next_delimiter c =
    begins_behind c.args.boundary.now c.args.body.now _ _ c.in_default.ensures
    (meets_mark _ (mark_of c.args.boundary.now) _ _ _ c.requires c.in-Some-next_delimiter.ensures)

pub returns-in-None : goal.returns-in-None
returns-in-None c =
    none_behind c.args.boundary.now c.args.body.now c.in_default.ensures
    (none_mark _ (mark_of c.args.boundary.now) _ c.requires c.in-None.ensures)
