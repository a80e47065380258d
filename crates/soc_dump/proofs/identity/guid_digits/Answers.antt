use Rattle.std.proofs.Common.{◌∙◌, ap}
use Rattle.hex.specs.Hex.{encode_upper}
use Rattle.soc_dump.specs.Identity.{guid_bytes_of}
use Rattle.soc_dump.proofs.identity.guid_digits.Goals as goal

pub returns : goal.returns
unfolding guid_bytes_of
returns c = c.in_ok-encode_upper.ensures ∙ ap encode_upper (c.as_slice.ensures.value ∙ c.in_ok-bytes.ensures)
