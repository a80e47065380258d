use Rattle.soc_siglists.proofs.AutomatonLemmas.{ends_accepts, none_accepts}
use Rattle.soc_siglists.proofs.automaton.accepts_long.Goals as goal

pub returns-in-At-clause-value : goal.returns-in-At-clause-value
returns-in-At-clause-value c =
    let end = rw c.as_bytes-bytes.ensures.value at c.in-At.ensures.end in
    ends_accepts c.args.dfa.now.nfa c.args.text.now end.0

pub returns-in-NoMatch-clause-value : goal.returns-in-NoMatch-clause-value
returns-in-NoMatch-clause-value c =
    let none = rw c.as_bytes-bytes.ensures.value at c.in-NoMatch.ensures.end in
    none_accepts c.args.dfa.now.nfa c.args.text.now none
