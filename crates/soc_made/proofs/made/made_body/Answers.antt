use Rattle.std.proofs.Common.{◌∙◌}
use Rattle.soc_made.proofs.MadeLemmas.{made_body-pieces}
use Rattle.soc_made.proofs.made.made_body.Goals as goal

pub returns : goal.returns
returns c =
    made_body-pieces c.args.seed c.args.k _ c.as_bytes.result.now c.as_slice.result.now c.new-body.result.items _ _ _ _ _ (c.as_bytes.ensures.value ∙ c.in_ok-id.ensures)
    c.made_digit.ensures.value (c.as_slice.ensures.value ∙ c.in_ok-dump.ensures) c.new-body.ensures.items c.in_ok-put_part.ensures c.in_ok-put_part-2.ensures
    c.in_ok-put_part-3.ensures c.in_ok-put_part-4.ensures c.in_ok-extend_from_slice.ensures.items
