use Rattle.std.proofs.Common.{length}
use denote.Text.{Utf8}
use denote.Shadow.{shadow}
use Rattle.soc_cfi.proofs.FindLemmas.{Found}
use Rattle.soc_cfi.proofs.texts.find_rule.Given as goal

abbrev pub invariant-loop-found : goal.invariant-loop-found
invariant-loop-found l = record { utf8 : shadow (Utf8 l.rest); found : Found l.text l.register l.rest l.found }

abbrev pub decreases-loop-found : goal.decreases-loop-found
decreases-loop-found l = length l.rest
