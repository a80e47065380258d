use Rattle.std.proofs.Common.{◌≡◌, ℕ, ◌<◌, false, get_or, eqb}
use Rattle.soc_dump.specs.declared.thread.Thread.{Thread}
use Rattle.soc_report.proofs.dump.place_of.Given as goal

-- none of the threads so far has the id
abbrev pub invariant-loop-place : goal.invariant-loop-place
invariant-loop-place l = (k : ℕ) (d : Thread) → k < l.place → eqb (get_or l.threads k d).id l.id ≡ false
