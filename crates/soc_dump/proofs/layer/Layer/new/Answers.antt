use Rattle.std.proofs.Common.{◌+◌, ◌≡◌, ◌∙◌, ap, option_map, arith}
use Rattle.std.specs.List.{position_from}
use Rattle.soc_dump.specs.Covering.{covers}
use Rattle.soc_dump.proofs.LayerLemmas.{position_from-later}
use Rattle.soc_dump.proofs.layer.Layer.new.Goals as goal

pub returns : goal.returns
returns c = λ x small.
    let first = c.args.first in
    let intervals = c.args.intervals.now in
    let same : first + 0 ≡ first = omega arith in
    ap (option_map (λ owner. first + owner)) (c.in_ok-pieces.ensures.owners x small)
    ∙ position_from-later (covers x) first 0 intervals ∙ ap (λ i. position_from (covers x) i intervals) same
