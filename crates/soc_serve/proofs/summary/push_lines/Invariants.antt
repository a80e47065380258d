use Rattle.std.proofs.Common.{◌≡◌, ◌++◌, drop, map}
use Rattle.soc_serve.specs.Storm.{term_lines}
use Rattle.soc_serve.proofs.summary.push_lines.Given as goal

-- the lines so far, and those that are left
abbrev pub invariant-loop-term : goal.invariant-loop-term
invariant-loop-term l = l.text.items ++ term_lines (map (λ term. term.now) (drop l.term-index l.terms)) ≡ l.fn.text.items ++ term_lines (map (λ term. term.now) l.terms)
