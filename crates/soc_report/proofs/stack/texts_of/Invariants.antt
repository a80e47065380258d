use Rattle.std.proofs.Common.{◌≡◌, map, take}
use Rattle.soc_frames.specs.Frames.{normal_of}
use Rattle.soc_report.proofs.stack.texts_of.Given as goal

-- the texts of the frames so far
abbrev pub invariant-loop-frame : goal.invariant-loop-frame
invariant-loop-frame l = l.texts ≡ map normal_of (take l.frame-index l.frames)
