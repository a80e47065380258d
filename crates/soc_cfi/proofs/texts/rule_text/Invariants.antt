use Rattle.std.proofs.Common.{length}
use denote.Text.{Utf8}
use denote.Shadow.{shadow}
use Rattle.soc_cfi.proofs.RuleLemmas.{Reached}
use Rattle.soc_cfi.proofs.texts.rule_text.Given as goal

abbrev pub invariant-loop-later : goal.invariant-loop-later
invariant-loop-later l = record { utf8 : shadow (Utf8 l.rest); reached : Reached l.text l.rest }

abbrev pub decreases-loop-later : goal.decreases-loop-later
decreases-loop-later l = length l.rest
