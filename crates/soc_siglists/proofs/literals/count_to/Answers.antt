use Rattle.std.proofs.Common.{◌+◌, ◌-◌, ◌/◌, arith, inl, inr, sym, ◌∙◌, ap}
use Rattle.std.proofs.lemmas.Bool.{cases_lt}
use Rattle.std.specs.Ordering.{is_gt}
use Rattle.soc_base.specs.Names.{byte_cmp}
use Rattle.soc_siglists.proofs.Fronts.{behind_from, up_to_here}
use Rattle.soc_siglists.proofs.literals.count_to.Goals as goal

pub loop-low-preserved-then-is_behind : goal.loop-low-preserved-then-is_behind
loop-low-preserved-then-is_behind c =
    let inv = c.loop-low.invariant in
    let middle = c.loop-low.low + (c.loop-low.high - c.loop-low.low) / 2 in
    record {
      order = omega arith;
      bound = omega (arith, inv.bound);
      front = inv.front;
      back =
          behind_from c.args.texts.now c.args.frame.now middle c.index-texts-middle.result c.requires (omega (arith, inv.bound)) c.index-texts-middle.is
          (sym c.if-is_behind.ensures);
    }

pub loop-low-preserved : goal.loop-low-preserved
loop-low-preserved c =
    let inv = c.loop-low.invariant in
    let middle = c.loop-low.low + (c.loop-low.high - c.loop-low.low) / 2 in
    record {
      order = omega arith;
      bound = inv.bound;
      front =
          up_to_here c.args.texts.now c.args.frame.now middle c.index-texts-middle.result c.requires (omega (arith, inv.bound)) c.index-texts-middle.is
          (sym c.if-is_behind.ensures);
      back = inv.back;
    }
