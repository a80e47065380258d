use Rattle.std.proofs.Common.{◌∙◌, ap, sym}
use Rattle.soc_siglists.specs.Lists.{matches_one}
use Rattle.soc_siglists.proofs.AnswerLemmas.{answers_set}
use Rattle.soc_siglists.proofs.patterns.PatternMatchers.keep.Goals as goal

pub invariant_of-self-2 : goal.invariant_of-self-2
invariant_of-self-2 c =
    let right = rw (← c.self.view_is) at c.requires in
    (c.self.invariant.0, answers_set c.self.inside.texts.now c.set.result c.self.inside.answers c.set.new.self c.args.frame.now c.args.is_one (rw c.in_ok-of.ensures at c.set.ensures.ok) c.set.ensures.err c.self.invariant.1 right)
