use Rattle.std.proofs.Common.{◌≡◌, ◌++◌, drop, map}
use Rattle.soc_serve.proofs.summary.listed.Given as goal

-- those that are listed, and those that are left
abbrev pub invariant-loop-term : goal.invariant-loop-term
invariant-loop-term l = map (λ term. term.now) l.list.items ++ drop l.term-index l.terms ≡ l.terms
