use Rattle.std.proofs.Common.{◌==◌, ap, sym, ◌∙◌}
use Rattle.soc_sigrules.specs.Chars.{char_count}
use Rattle.soc_sigrules.specs.Signatures.{StackState}
use Rattle.soc_sigrules.proofs.FrontLemmas.{words-full}
use Rattle.soc_sigrules.proofs.stack.StackTexts.push_words.Goals as goal

pub returns : goal.returns
returns c =
    words-full c.loop-rest.self _ c.loop-rest.rest.now c.loop-rest.invariant.words
    (ap (λ (s : StackState). char_count s.front == 257) (sym c.self.view_is) ∙ sym c.is_full.ensures ∙ c.loop-rest-test.false)
