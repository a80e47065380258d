use Rattle.soc_sigrules.proofs.CharLemmas.{Passes}
use Rattle.soc_sigrules.proofs.chars.chars_end.Given as goal

abbrev pub invariant-loop-place : goal.invariant-loop-place
invariant-loop-place l = Passes l.count l.text l.place l.left
