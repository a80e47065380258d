use Rattle.std.proofs.Common.{◌+◌, ◌≤◌, arith, length}
use Rattle.soc_store.proofs.CountedLemmas.{ends_near}
use Rattle.soc_store.proofs.parts.part_near.Goals as goal

pub returns-then-part-saturating_add-clause-start : goal.returns-then-part-saturating_add-clause-start
returns-then-part-saturating_add-clause-start c =
    let begins : c.index-parts-near.result.end ≤ c.args.i + length c.index-parts-near.result.block = omega (arith, c.saturating_add.ensures, c.len.ensures) in
    ends_near c.args.parts.now c.args.near c.index-parts-near.result c.args.i c.requires.counted c.if-near-parts.true c.index-parts-near.is begins
