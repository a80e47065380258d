use Rattle.std.proofs.Common.{◌≡◌, ℕ, ◌<◌, length, get_or}
use Rattle.soc_walk.proofs.architecture.widened.Given as goal

-- the numbers so far are the same
abbrev pub invariant-loop-place : goal.invariant-loop-place
invariant-loop-place l = record { long : length l.wide ≡ length l.registers; same : (k : ℕ) → k < l.place → get_or l.wide k 0 ≡ get_or l.registers k 0 }
