use Rattle.std.proofs.Common.{◌∙◌, ap, codes}
use Rattle.std.proofs.lemmas.Result.{IfOk-weaker}
use Rattle.soc_sigrules.specs.Chars.{joined}
use Rattle.soc_report.proofs.NoteLemmas.{pushed, all_pushed}
use Rattle.soc_report.proofs.known.Known.notes.Goals as goal

pub loop-note-preserved : goal.loop-note-preserved
loop-note-preserved c =
    pushed _ _ _ _ _ _ _ c.in-Some.ensures.steps c.in_ok-of.ensures c.in_ok-push.ensures.ok c.loop-note.invariant

pub returns : goal.returns
returns c =
    IfOk-weaker c.join.result _ _
    (λ _ is. is ∙ ap (joined (codes "; ")) (all_pushed _ _ _ c.in-None.ensures.steps.0 c.loop-note.invariant))
    c.join.ensures
