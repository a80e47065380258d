use Rattle.std.proofs.lemmas.List.Sums.{prefix_len-le-length}
use Rattle.soc_text.specs.Blanks.{is_blank}
use Rattle.soc_multipart.proofs.Basics.{parts_run}
use Rattle.soc_multipart.proofs.delimiters.split_blanks.Goals as goal

pub split_at-requires : goal.split_at-requires
split_at-requires c = rw c.blanks_len.ensures (prefix_len-le-length is_blank c.args.text.now)

pub returns : goal.returns
returns c =
    parts_run is_blank c.args.text.now _ _ c.blanks_len.result c.blanks_len.ensures c.split_at.ensures.front c.split_at.ensures.back
