use Rattle.std.proofs.Common.{◌≡◌, length, arith}
use Rattle.soc_crew.proofs.Lists.{each_did}
use Rattle.soc_crew.proofs.work.work.Goals as goal

pub returns-clause-collectors : goal.returns-clause-collectors
returns-clause-collectors g c =
    let before = c.args.collectors.ok in
    let after = c.side_by_side-collectors.result.0.ok in
    let long = c.side_by_side-collectors.ensures.first.0 in
    let same : length c.side_by_side-collectors.result.0.items ≡ length c.args.collectors.items = omega (arith, before, after, long) in
    each_did _ _ _ _ _ same (λ i a b p. (p.0, p.1.0.0, p.1.0.1, p.1.0.2, p.1.1.0.0, p.1.1.0.1, p.1.1.1)) c.side_by_side-collectors.ensures.first.1

pub returns-clause-processors : goal.returns-clause-processors
returns-clause-processors g c =
    let before = c.args.processors.ok in
    let after = c.side_by_side-collectors.result.1.ok in
    let long = c.side_by_side-collectors.ensures.second.0 in
    let same : length c.side_by_side-collectors.result.1.items ≡ length c.args.processors.items = omega (arith, before, after, long) in
    each_did _ _ _ _ _ same (λ i a b p. p) c.side_by_side-collectors.ensures.second.1
