use Rattle.std.proofs.Common.{◌∙◌}
use Rattle.soc_raw.proofs.Ids.{stamped_text}
use Rattle.soc_raw.proofs.crash_id.stamped.Goals as goal

pub returns : goal.returns
returns c =
    stamped_text c.args.text.now _ _ _ c.requires.sized c.copy_from_slice.ensures.after (c.copy_from_slice-2.ensures.after ∙ c.stamp-tail.ensures)
