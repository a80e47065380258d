use Rattle.std.proofs.lemmas.List.Sums.{prefix_len-le-length}
use Rattle.soc_multipart.specs.Heads.{is_line_byte}
use Rattle.soc_multipart.proofs.Basics.{parts_run}
use Rattle.soc_multipart.proofs.heads.split_line_bytes.Goals as goal

pub split_at-requires : goal.split_at-requires
split_at-requires c = rw c.line_bytes_len.ensures (prefix_len-le-length is_line_byte c.args.text.now)

pub returns : goal.returns
returns c =
    parts_run is_line_byte c.args.text.now _ _ c.line_bytes_len.result c.line_bytes_len.ensures c.split_at.ensures.front c.split_at.ensures.back
