use Rattle.soc_forms.proofs.RefusalLemmas.{form_refusal}
use Rattle.soc_forms.proofs.forms.Form.feed.Goals as goal

pub returns-in-Err-clause-refused : goal.returns-in-Err-clause-refused
returns-in-Err-clause-refused c = λ fed w.
    form_refusal c.args.self.now c.self.inside.reader c.args.piece.now fed c.in-Err.error c.form_error.result c.self.view_is c.form_error.ensures.refusal c.in-Err.ensures.refused w
