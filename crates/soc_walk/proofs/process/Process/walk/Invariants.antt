use Rattle.std.proofs.Common.{◌≡◌, ◌-◌, ◌++◌, true, map}
use Rattle.soc_frames.specs.declared.frame.Trust.TheVariants.{Context}
use Rattle.soc_walk.specs.Views.{frame_copy}
use Rattle.soc_walk.specs.Walk.{frames_from}
use Rattle.soc_walk.proofs.process.Process.walk.Given as goal

-- the whole walk is the frames so far and those from the registers here on
abbrev pub invariant-loop : goal.invariant-loop
invariant-loop l =
    frames_from l.self 1024 true (record { values = l.values; trust = Context }) ≡ map (frame_copy l.self.loaded) l.frames.items ++ frames_from l.self (1024 - l.counter) l.first l.here
