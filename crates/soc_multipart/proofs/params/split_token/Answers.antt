use Rattle.std.proofs.lemmas.List.Sums.{prefix_len-le-length}
use Rattle.soc_text.specs.Tokens.{is_token_byte}
use Rattle.soc_multipart.proofs.Basics.{parts_run}
use Rattle.soc_multipart.proofs.params.split_token.Goals as goal

pub split_at-requires : goal.split_at-requires
split_at-requires c = rw c.token_len.ensures (prefix_len-le-length is_token_byte c.args.text.now)

pub returns : goal.returns
returns c =
    parts_run is_token_byte c.args.text.now _ _ c.token_len.result c.token_len.ensures c.split_at.ensures.front c.split_at.ensures.back
