use Rattle.std.proofs.Common.{◌∙◌, rules}
use Rattle.soc_made.proofs.MadeLemmas.{made_crash-pieces}
use Rattle.soc_made.proofs.made.made_crash.Goals as goal

pub returns : goal.returns
returns c =
    c.from.ensures
    ∙ made_crash-pieces c.args.seed c.args.k c.len-2.result c.as_slice.result.now c.as_bytes.result.now c.in_ok-message.message.items _ _ _ _
    (c.as_slice.ensures.value ∙ c.in_ok-body.ensures) (search rules) (c.as_bytes.ensures.value ∙ c.format.ensures.text) c.in_ok-message.ensures.items
    c.in_ok-extend_from_slice.ensures.items c.in_ok-extend_from_slice-2.ensures.items c.in_ok-extend_from_slice-3.ensures.items c.in_ok-extend_from_slice-4.ensures.items
