use Rattle.soc_forms.proofs.LawLemmas.{one_submission}
use Rattle.soc_forms.proofs.submissions.submission_is_one.Goals as goal

pub returns : goal.returns
returns c = one_submission
