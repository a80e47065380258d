use Rattle.std.proofs.Common.{◌≡◌, ◌++◌, map, take}
use Rattle.std.specs.List.{enumerate_from}
use Rattle.soc_schema.specs.Commas.{joined}
use Rattle.soc_walk.specs.Views.{frame_copy}
use Rattle.soc_report.specs.StackText.{frame_json}
use Rattle.soc_report.proofs.frame_json.put_frames.Given as goal

-- the frames so far
abbrev pub invariant-loop-place : goal.invariant-loop-place
invariant-loop-place l = record {
  same : l.lists ≡ l.fn.lists;
  text : l.out.items ≡ l.initial.out.items ++ joined (λ p. frame_json l.fn.lists l.process p.0 p.1) (take l.place (enumerate_from 0 (map (frame_copy l.process.loaded) l.frames)));
}
