use Rattle.std.proofs.Common.{◌≡◌, drop}
use Rattle.soc_frames.proofs.PlainLemmas.{length_left}
use Rattle.soc_frames.proofs.plain.front_len.Given as goal

-- none of the fronts so far
abbrev pub invariant-loop-front : goal.invariant-loop-front
invariant-loop-front l = length_left l.text l.fronts ≡ length_left l.text (drop l.front-index l.fronts)
