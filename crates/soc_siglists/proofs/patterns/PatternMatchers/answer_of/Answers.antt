use Rattle.std.proofs.Common.{◌∙◌}
use Rattle.soc_siglists.proofs.AnswerLemmas.{answer_is}
use Rattle.soc_siglists.proofs.patterns.PatternMatchers.answer_of.Goals as goal

pub returns : goal.returns
returns c =
    let holds = rw c.self.view_is at c.self.invariant in
    answer_is c.args.self.now c.self.inside.answers c.args.frame.now c.copied.result holds.1 (c.copied.ensures ∙ c.get.ensures)
