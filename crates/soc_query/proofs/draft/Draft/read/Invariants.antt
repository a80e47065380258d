use Rattle.std.proofs.Common.{◌≡◌, drop, take}
use Rattle.soc_query.specs.Queries.{asked_by, with_pairs}
use Rattle.soc_query.proofs.draft.Draft.read.Given as goal

-- the query so far with the pairs that are left
abbrev pub invariant-loop-i : goal.invariant-loop-i
invariant-loop-i l = with_pairs l.query (drop l.i (take 128 l.pairs)) ≡ with_pairs (asked_by l.fn.caller) (take 128 l.pairs)
