use Rattle.std.proofs.lemmas.Result.{IfOk-weaker}
use Rattle.soc_siglists.proofs.AutomatonLemmas.{runs_as}
use Rattle.soc_siglists.proofs.pattern.Pattern.automaton.Goals as goal

pub returns : goal.returns
returns c =
    IfOk-weaker c.automaton_of.result _ _ (λ dfa compiled. runs_as c.args.self.now c.self.inside.parsed.hir _ dfa.nfa (rw c.self.view_is at c.self.invariant) compiled) c.automaton_of.ensures
