use Rattle.soc_siglists.proofs.PatternLemmas.{repetition_optional}
use Rattle.soc_siglists.proofs.lead.is_optional.Goals as goal

pub returns-in-Repetition : goal.returns-in-Repetition
returns-in-Repetition c = λ none. repetition_optional c.args.hir.now _ _ _ _ c.in-Repetition.is none
