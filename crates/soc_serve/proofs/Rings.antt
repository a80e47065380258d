-- The ring that a crew leaves.
use Rattle.std.proofs.Common.{◌≡◌, ℕ, Bool, true, false, List, Option, None, Some, Result, Ok, Err, MatchOption, sym}
use Rattle.std.proofs.lemmas.Bool.{true≢false}
use Rattle.std.specs.Prelude.{IsErr, IsOkAnd}
use Rattle.soc_base.specs.declared.no_memory.NoMemory.{NoMemory}
use Rattle.soc_pool.specs.declared.pass.RingEnd.{RingEnd}
use Rattle.soc_pool.specs.Passes.{seen_in}
use Rattle.soc_crew.specs.declared.crew.Crew.{Crew}
use Rattle.soc_crew.specs.Jobs.{Shares, Starts}
use Rattle.soc_serve.specs.Hosts.{LeavesRing}

pub leaves_ring : (due : List (List ℕ)) (crew : Crew) (status : ℕ) (failed : Result Bool NoMemory) (ring : Option RingEnd)
    → MatchOption ring (IsErr failed) (λ end. Shares (Starts due crew.processors) crew.collectors crew.processors (seen_in end))
    → (status ≡ 6 → IsOkAnd failed (λ f. f ≡ true)) → (status ≡ 0 → IsOkAnd failed (λ f. f ≡ false)) → LeavesRing due crew status ring
leaves_ring due crew status failed (Some ring) shares fails ends = shares
leaves_ring due crew status (Err none) None is fails ends = ((λ is. ends is), λ is. fails is)
leaves_ring due crew status (Ok f) None never fails ends = absurd (true≢false (sym never))
