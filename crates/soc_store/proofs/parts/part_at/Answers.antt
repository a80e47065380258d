use Rattle.std.proofs.Common.{◌≡◌, arith, length, get_or, ◌+◌, ◌-◌, ◌/◌, ◌≤◌}
use Rattle.soc_store.specs.inner.Parts.{postings_in}
use Rattle.soc_store.proofs.CountedLemmas.{ends_before, last_end, some_part}
use Rattle.soc_store.proofs.parts.part_at.Goals as goal

pub loop-low-init : goal.loop-low-init
loop-low-init c =
    let some = some_part c.args.parts.now c.args.i c.requires.within in record {
      order = omega arith;
      within = omega arith;
      start = λ d k h. absurd (omega arith);
      end = λ d. let last : (get_or c.args.parts.now (length c.args.parts.now - 1) d).end ≡ 0 + length (postings_in c.args.parts.now) = last_end 0 c.args.parts.now d c.requires.counted some in let lt = c.requires.within in omega arith;
    }

pub loop-low-preserved : goal.loop-low-preserved
loop-low-preserved c =
    let middle = c.loop-low.low + (c.loop-low.high - c.loop-low.low) / 2 in
    let within = c.loop-low.invariant.within in
    let least : (get_or c.args.parts.now middle c.index-parts-middle.result).end ≤ c.args.i = c.if-i-parts.false in
    record {
      order = omega arith;
      within = within;
      start = λ d k h. ends_before c.args.parts.now k middle d c.index-parts-middle.result c.args.i c.requires.counted (omega arith) (omega arith) least;
      end = c.loop-low.invariant.end;
    }
