use Rattle.std.proofs.Common.{◌≡◌, length}
use denote.Text.{Utf8}
use denote.Shadow.{shadow}
use Rattle.soc_sigrules.proofs.FrontLemmas.{with_rest}
use Rattle.soc_sigrules.proofs.stack.StackTexts.push_words.Given as goal

-- what the words that are left make of what was reached is what all of them make of what there was
abbrev pub invariant-loop-rest : goal.invariant-loop-rest
invariant-loop-rest l = record {
  words : with_rest l.self l.rest ≡ with_rest l.fn.self l.fn.text;
  utf8 : shadow (Utf8 l.rest);
}

abbrev pub decreases-loop-rest : goal.decreases-loop-rest
decreases-loop-rest l = length l.rest
