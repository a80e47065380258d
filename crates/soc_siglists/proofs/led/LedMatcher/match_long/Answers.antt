use Rattle.soc_siglists.proofs.AutomatonLemmas.{asked_of}
use Rattle.soc_siglists.proofs.led.LedMatcher.match_long.Goals as goal

pub returns-clause-value : goal.returns-clause-value
returns-clause-value c =
    let holds = rw c.self.view_is at c.self.invariant in
    asked_of c.accepts_long-found.result c.self.inside.automaton.now.nfa c.args.self.now c.args.frame.now holds.1 (record { utf8 = c.utf8.frame; bytes = λ k. (c.type_inv.frame k).fits }) c.accepts_long-found.ensures.value
