use Rattle.std.proofs.Common.{◌≡◌, ◌≤◌, length, map, take}
use Rattle.std.specs.Vec.{vec_len}
use Rattle.soc_listen.specs.Memory.{fresh_link}
use Rattle.soc_listen.proofs.memory.listener.MemListener.new.Given as goal

abbrev pub invariant-loop-script : goal.invariant-loop-script
invariant-loop-script l =
    (l.left.items ≡ map (fresh_link l.room) (take l.script-index l.script-items))
    × (vec_len l.written ≡ l.script-index)
    × (l.script-index ≤ length l.script-items)
