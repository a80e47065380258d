use Rattle.std.proofs.Common.{◌++◌, ap, sym, ◌∙◌}
use Rattle.std.proofs.lemmas.Result.{on_ok_weaker}
use Rattle.soc_sigrules.specs.Chars.{first_chars}
use Rattle.soc_sigrules.specs.Signatures.{StackState}
use Rattle.soc_sigrules.specs.inner.Fronts.{with_word}
use Rattle.soc_sigrules.proofs.FrontLemmas.{same_state, word_later, word_first}
use Rattle.soc_sigrules.proofs.stack.StackTexts.push_word.Goals.{then-not-is_empty+in_ok-push, else-not-is_empty}
use Rattle.soc_sigrules.proofs.stack.StackTexts.push_word.Goals as goal

pub returns : goal.returns
returns c =
    let held = ap (λ (s : StackState). record s { front = with_word s.front c.args.word.now }) c.self.view_is in
    on_ok_weaker c.push-2.result
    (λ is. elim c.if-not-is_empty.branch [
      | then-not-is_empty+in_ok-push w ↦
          same_state _ _ _ _ _ _
          (word_later c.self.inside.front w.push.new.self c.push-2.new.self c.args.word.now c.utf8.word (sym w.if-not-is_empty.ensures) w.in_ok-push.ensures
          (is ∙ (λ i. first_chars 257 ((w.self-inside-is i).front ++ c.args.word.now))))
          (λ i. (w.self-inside-is i).last) (λ i. (w.self-inside-is i).is_ended)
          ∙ held
      | else-not-is_empty w ↦
          same_state _ _ _ _ _ _
          (word_first c.self.inside.front c.push-2.new.self c.args.word.now (sym w.if-not-is_empty.ensures)
          (is ∙ (λ i. first_chars 257 ((w.self-inside-is i).front ++ c.args.word.now))))
          (λ i. (w.self-inside-is i).last) (λ i. (w.self-inside-is i).is_ended)
          ∙ held
    ]) c.push-2.ensures
