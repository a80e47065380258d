use Rattle.std.proofs.Common.{◌≡◌, ℕ, ◌<◌, true, get_or}
use Rattle.soc_raw.specs.CrashId.{may_stand}
use Rattle.soc_raw.proofs.crash_id.each_may_stand.Given as goal

abbrev pub invariant-loop-place : goal.invariant-loop-place
invariant-loop-place l = (k : ℕ) → k < l.place → may_stand k (get_or l.text k 0) ≡ true
