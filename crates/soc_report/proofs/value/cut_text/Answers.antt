use Rattle.soc_report.proofs.CutLemmas.{cut_is}
use Rattle.soc_report.proofs.value.cut_text.Goals as goal

pub returns : goal.returns
returns c =
    let at = c.floor_char_boundary.ensures in
    cut_is c.args.text.now c.range.result.now c.floor_char_boundary.result c.range.ensures.value at.bound at.boundary at.nearest
