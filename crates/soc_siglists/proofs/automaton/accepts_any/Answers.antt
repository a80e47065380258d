use Rattle.std.proofs.Common.{◌∙◌}
use Rattle.soc_siglists.proofs.AutomatonLemmas.{is_match_accepts}
use Rattle.soc_siglists.proofs.automaton.accepts_any.Goals as goal

pub returns : goal.returns
returns c =
    let found = rw c.as_bytes-bytes.ensures.value at c.is_match.ensures.found in
    found ∙ is_match_accepts c.args.nfa.now c.args.text.now
