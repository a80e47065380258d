use Rattle.std.proofs.Common.{◌≡◌, map, take}
use Rattle.soc_walk.specs.Views.{frame_copy}
use Rattle.soc_walk.proofs.copies.copy_frames.Given as goal

-- the frames so far are copied
abbrev pub invariant-loop-frame : goal.invariant-loop-frame
invariant-loop-frame l = l.copies ≡ map (frame_copy l.process.loaded) (take l.frame-index l.frames)
