use Rattle.std.proofs.lemmas.Result.{IfOk-weaker}
use Rattle.soc_multipart.specs.OwnedViews.{owned_texts}
use Rattle.soc_forms.specs.SubmissionViews.{submission_text}
use Rattle.soc_forms.proofs.RefusalLemmas.{form_end_refusal, form_fits}
use Rattle.soc_forms.proofs.forms.Form.finish.Goals as goal

pub returns-in-Ok-clause-fits : goal.returns-in-Ok-clause-fits
returns-in-Ok-clause-fits c = λ fed w.
    IfOk-weaker c.said_by.result _ _
    (λ said says. form_fits c.args.self c.self.inside.reader fed (owned_texts c.in-Ok.parts.items) (submission_text said) c.self.view_is c.in-Ok.ensures.found w says)
    c.said_by.ensures.found

pub returns-in-Err-clause-refused : goal.returns-in-Err-clause-refused
returns-in-Err-clause-refused c = λ fed w.
    form_end_refusal c.args.self c.self.inside.reader fed c.in-Err.error c.form_error.result c.self.view_is c.form_error.ensures.refusal c.in-Err.ensures.refused w
