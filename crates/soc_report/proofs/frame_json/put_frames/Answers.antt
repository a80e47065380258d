use Rattle.std.proofs.Common.{◌∙◌}
use Rattle.soc_walk.specs.Views.{frame_copy}
use Rattle.soc_report.specs.StackText.{frame_json}
use Rattle.soc_report.proofs.JsonLemmas.{placed_all, placed_step}
use Rattle.soc_report.proofs.frame_json.put_frames.Goals as goal

pub loop-place-preserved : goal.loop-place-preserved
loop-place-preserved c = record {
  same = c.put_frame.ensures.lists ∙ c.loop-place.invariant.same;
  text =
      placed_step (λ lists. frame_json lists c.args.process.now) c.args.lists.now c.loop-place.lists (frame_copy c.args.process.now.loaded) c.args.frames.now c.loop-place.place _ c.args.out.now.items c.loop-place.out.items c.put_comma.new.out.items _ c.loop-place.invariant.same c.loop-place-test.true c.loop-place.invariant.text c.in_ok-put_comma.ensures c.in_ok-put_frame.ensures.text;
}

pub returns-clause-text : goal.returns-clause-text
returns-clause-text c =
    placed_all (frame_json c.args.lists.now c.args.process.now) (frame_copy c.args.process.now.loaded) c.args.frames.now c.loop-place.place c.args.out.now.items c.loop-place.out.items c.loop-place-test.false c.loop-place.invariant.text
