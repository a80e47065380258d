-- How automata stand to the patterns that they are compiled of.
use Rattle.std.specs.Prelude.{◌≡◌, ℕ, Bool, List, length, is_some}
use Rattle.regex_nfa.specs.Run.{run}
use Rattle.regex_nfa.specs.declared.nfa.Nfa.{Nfa}
use Rattle.soc_siglists.specs.Patterns.{matches_start}
use Rattle.soc_siglists.specs.inner.Literals.{IsFrame}

-- it accepts the text or a front of it
abbrev pub accepts : Nfa → List ℕ → Bool
accepts nfa text = is_some (run nfa text (length text) nfa.start 0)

-- it accepts a front of just the frames that the pattern matches
abbrev pub RunsAs : List ℕ → Nfa → Type 0
RunsAs pattern nfa = (frame : List ℕ) → IsFrame frame → accepts nfa frame ≡ matches_start frame pattern
