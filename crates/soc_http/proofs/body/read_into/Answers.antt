use Rattle.std.proofs.Common.{[], arith}
use Rattle.std.proofs.lemmas.Grind.{common_steps}
use Rattle.soc_edge.proofs.Told.{Reads-none}
use Rattle.soc_http.proofs.BodyLemmas.{IsFilledTo-more}
use Rattle.soc_http.proofs.body.read_into.Goals as goal

pub loop-at-preserved : goal.loop-at-preserved
loop-at-preserved g c =
    IsFilledTo-more _ _ _ _ _ _ _ _ _ c.loop-at.invariant c.loop-at-test.true c.read_behind.auto.window c.read_behind.ensures.front
    c.in_ok-count.ensures.count c.in_ok-count.ensures.reads

pub loop-at-init : goal.loop-at-init
loop-at-init g c = record {
  given = [];
  gives = Reads-none (g.S.Tells.told c.args.source.now);
  whole = grind (arith, common_steps);
  within = omega arith;
  emptied = grind (arith, common_steps);
}
