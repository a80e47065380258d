use Rattle.std.proofs.Common.{◌∙◌}
use Rattle.soc_siglists.proofs.AutomatonLemmas.{found_accepts}
use Rattle.soc_siglists.proofs.automaton.accepts_short.Goals as goal

pub returns-in-Ok : goal.returns-in-Ok
returns-in-Ok c =
    c.is_some.ensures
    ∙ found_accepts c.args.nfa.now c.args.text.now c.in-Ok.found (rw c.as_bytes-bytes.ensures.value at c.in-Ok.ensures.span)
