use Rattle.std.proofs.Common.{◌≡◌, ◌-◌, ◌≤◌, length}
use Rattle.soc_sigrules.specs.Modules.{mark_place}
use Rattle.soc_sigrules.specs.inner.Candidates.{mark_from}
use Rattle.soc_sigrules.proofs.modules.mark_place.Given as goal

abbrev pub invariant-loop-found : goal.invariant-loop-found
invariant-loop-found l = (mark_place l.frame ≡ mark_from l.frame l.place) × (l.place ≤ length l.frame)

abbrev pub decreases-loop-found : goal.decreases-loop-found
decreases-loop-found l = length l.frame - l.place
