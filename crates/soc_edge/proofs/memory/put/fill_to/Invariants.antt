use Rattle.std.proofs.Common.{◌≡◌, ◌-◌, ◌≤◌, ◌++◌, max, replicate, vec_len, vec_capacity}
use Rattle.soc_edge.proofs.memory.put.fill_to.Given as goal

abbrev pub invariant-loop-bytes : goal.invariant-loop-bytes
invariant-loop-bytes l =
    (l.bytes.items ≡ l.initial.bytes.items ++ replicate (vec_len l.bytes - vec_len l.initial.bytes) 0)
    × (vec_len l.initial.bytes ≤ vec_len l.bytes)
    × (vec_len l.bytes ≤ max (vec_len l.initial.bytes) l.end)
    × (vec_capacity l.initial.bytes ≤ vec_capacity l.bytes)

abbrev pub decreases-loop-bytes : goal.decreases-loop-bytes
decreases-loop-bytes l = l.end - vec_len l.bytes
