use Rattle.std.specs.Prelude.{◌≡◌, ◌+◌, vec_len}
use Rattle.soc_session_tests.proofs.shared.taken_by_two.Given as goal

abbrev pub invariant-loop-i : goal.invariant-loop-i
invariant-loop-i g l = (l.all.handed.parts + l._i ≡ 2) × (l.all.refused.parts + l._i ≡ 2) × (l.all.handed.amount ≡ 0) × (l.all.refused.amount ≡ 0) × (vec_len l.takers ≡ l._i)

abbrev pub invariant-loop-taker : goal.invariant-loop-taker
invariant-loop-taker g l = (l.all.handed.parts + vec_len l.takers ≡ 2) × (l.all.refused.parts + vec_len l.takers ≡ 2)

abbrev pub decreases-loop-taker : goal.decreases-loop-taker
decreases-loop-taker g l = goal.left-loop-taker g l
