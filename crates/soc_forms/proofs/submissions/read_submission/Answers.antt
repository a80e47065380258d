use Rattle.std.proofs.Common.{[]}
use Rattle.std.proofs.lemmas.Result.{IfErr-weaker, err_from_is_err_and}
use Rattle.soc_forms.proofs.RefusalLemmas.{feed_refusal_lifts, finish_refusal_lifts}
use Rattle.soc_forms.proofs.submissions.read_submission.Goals as goal

pub returns-in_err-feed-clause-refused : goal.returns-in_err-feed-clause-refused
returns-in_err-feed-clause-refused c =
    let p = err_from_is_err_and c.from_residual-in_err-feed.result c.from_residual-in_err-feed.ensures.1 in
    rw (p.1, p.2)
    (feed_refusal_lifts _ c.args.kinds.now c.args.body.now c.in_ok-form.form.boundary c.in_err-feed.field-0.0 c.in_ok-form.ensures.found.0
    (c.in_err-feed.ensures.refused [] c.in_ok-form.ensures.found.1))

pub returns-clause-refused : goal.returns-clause-refused
returns-clause-refused c =
    IfErr-weaker c.finish.result _ _
    (λ error h. finish_refusal_lifts _ c.args.kinds.now c.args.body.now c.in_ok-form.form.boundary c.feed.new.self.boundary error c.in_ok-form.ensures.found.0 c.in_ok-feed.ensures.keeps h)
    (c.finish.ensures.refused c.args.body.now (c.in_ok-feed.ensures.goes_on [] c.in_ok-form.ensures.found.1))
