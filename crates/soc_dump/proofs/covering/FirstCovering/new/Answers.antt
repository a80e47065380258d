use Rattle.std.proofs.Common.{◌∙◌, ap}
use Rattle.std.specs.List.{position_from}
use Rattle.std.specs.Option.{option_or}
use Rattle.soc_dump.specs.Covering.{covers, owner_in}
use Rattle.soc_dump.proofs.CoveringLemmas.{position_from-zero}
use Rattle.soc_dump.proofs.covering.FirstCovering.new.Goals as goal

pub returns : goal.returns
returns c = λ x small.
    let intervals = c.args.intervals.now in
    c.in_ok-extend.ensures x small
    ∙ ap (λ table. option_or (owner_in table x) (position_from (covers x) 0 intervals)) c.empty-table.ensures
    ∙ position_from-zero (covers x) intervals
