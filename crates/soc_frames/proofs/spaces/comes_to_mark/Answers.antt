use Rattle.std.proofs.Common.{◌∙◌}
use Rattle.std.specs.Prelude.{Some, None}
use Rattle.soc_frames.proofs.SpaceLemmas.{first_is_mark}
use Rattle.soc_frames.proofs.spaces.comes_to_mark.Goals as goal

pub returns-in-Some : goal.returns-in-Some
returns-in-Some c =
    c.is_mark.ensures ∙ first_is_mark c.args.text.now c.after.result.now c.spaces_len.result (Some c.in-Some.byte.now) c.spaces_len.ensures c.after.ensures c.in-Some.ensures.value

pub returns-in-None : goal.returns-in-None
returns-in-None c =
    first_is_mark c.args.text.now c.after.result.now c.spaces_len.result None c.spaces_len.ensures c.after.ensures c.in-None.ensures.value
