use Rattle.std.proofs.Common.{◌-◌, ◌≤◌, length, take}
use Rattle.soc_http.specs.Block.{HasNoBlock}
use Rattle.soc_http.specs.inner.Windows.{Fills}
use Rattle.soc_http.proofs.heads.find_block.Given as goal

abbrev pub invariant-loop-end : goal.invariant-loop-end
invariant-loop-end g l =
    Fills (g.S.Tells.told l.initial.source) (g.S.Tells.told l.source) l.initial.buffer l.buffer
    × (l.searched ≤ length l.buffer)
    × HasNoBlock (take l.searched l.buffer)

abbrev pub decreases-loop-end : goal.decreases-loop-end
decreases-loop-end g l = 32769 - length l.buffer
