use Rattle.std.proofs.lemmas.Result.{err_from_is_err_and}
use Rattle.std.proofs.Common.{sym, ap, ◌∙◌, inl}
use Rattle.soc_serve.proofs.Stops.{keeps_behind}
use Rattle.soc_serve.proofs.Sweeps.{ends_both, fails_behind, processed_so}
use Rattle.soc_serve.proofs.sweep.process_and_keep.Goals as goal

pub returns-in_err-keep-clause-ends : goal.returns-in_err-keep-clause-ends
returns-in_err-keep-clause-ends g c basis state rows digest stands =
    let same = c.drain-processed.ensures.setting.reporter in
    let first = c.drain-processed.ensures.ends basis state rows stands in
    let kept = c.in_err-keep.ensures.ends basis first.0 (rows ∙ sym (ap g.R.Reporter.row_of same)) (digest ∙ sym (ap g.R.Reporter.digest_of same)) first.1 in
    let behind = first.3.behind in
    let processed = processed_so basis state _ _ first.0 _ first.2 in
    let p = err_from_is_err_and c.from_residual.result c.from_residual.ensures.1 in (
      kept.0,
      kept.1,
      rw (p.1, p.2) (
        fails_behind basis state first.0 kept.0 _ _ _ _ first.3.goes_on behind kept.2.0,
        kept.2.1,
        kept.2.2,
        inl (processed.0, record { first = first.0; processes = processed.1; keeps_made = kept.2.3 }),
      ),
      keeps_behind basis state first.0 kept.0 _ _ _ first.3 kept.3,
    )

pub returns-clause-ends : goal.returns-clause-ends
returns-clause-ends g c basis state rows digest stands =
    let same = c.drain-processed.ensures.setting.reporter in
    let first = c.drain-processed.ensures.ends basis state rows stands in
    let kept = c.in_ok-keep.ensures.ends basis first.0 (rows ∙ sym (ap g.R.Reporter.row_of same)) (digest ∙ sym (ap g.R.Reporter.digest_of same)) first.1 in (
      kept.0,
      kept.1,
      ends_both basis state first.0 kept.0 _ _ _ _ kept.2.0 first.2 kept.3.goes_on kept.2.1,
      keeps_behind basis state first.0 kept.0 _ _ _ first.3 kept.3,
    )
