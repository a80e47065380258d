use Rattle.std.proofs.Common.{◌++◌, List, ℕ, false, ap, sym, arith}
use Rattle.std.proofs.lemmas.Str.{IsCharBoundary-start}
use Rattle.soc_frames.specs.Cpp.{spaced_from}
use Rattle.soc_frames.proofs.spaces.put_spaces_right.Goals as goal

pub loop-from-init : goal.loop-from-init
loop-from-init c = record {
  within = omega arith;
  same = sym (ap (λ (text : List ℕ). text ++ spaced_from false c.args.name.now) c.new-out.ensures.bytes);
  boundary = IsCharBoundary-start c.args.name.now c.utf8.name;
}
