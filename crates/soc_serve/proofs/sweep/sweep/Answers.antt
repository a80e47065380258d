use Rattle.std.proofs.lemmas.Result.{err_from_is_err_and}
use Rattle.std.proofs.Common.{sym, ap, inl, ◌∙◌}
use Rattle.soc_edge.proofs.Disks.{GoesOn-append}
use Rattle.soc_serve.proofs.Stops.{keeps_more, processes_behind}
use Rattle.soc_serve.proofs.Sweeps.{ends_sweep, fails_sweep, second_failed}
use Rattle.soc_serve.proofs.sweep.sweep.Goals as goal

pub returns-in_err-keep-clause-ends : goal.returns-in_err-keep-clause-ends
returns-in_err-keep-clause-ends g c basis state rows digest stands =
    let kept = c.in_err-keep.ensures.ends basis state rows digest stands in
    let p = err_from_is_err_and c.from_residual.result c.from_residual.ensures.1 in
    (kept.0, kept.1, rw (p.1, p.2) (fails_sweep basis state kept.0 _ _ _ kept.2.1 kept.2.0 kept.2.2 (inl kept.2.3)), kept.3)

pub returns-in_err-process_and_keep-clause-ends : goal.returns-in_err-process_and_keep-clause-ends
returns-in_err-process_and_keep-clause-ends g c basis state rows digest stands =
    let opened = c.in_ok-keep.ensures.ends basis state rows digest stands in
    let same = c.keep.ensures.setting.reporter in
    let both = c.in_err-process_and_keep.ensures.ends basis opened.0 (rows ∙ sym (ap g.R.Reporter.row_of same)) (digest ∙ sym (ap g.R.Reporter.digest_of same)) opened.1 in
    let p = err_from_is_err_and c.from_residual-in_err-process_and_keep.result c.from_residual-in_err-process_and_keep.ensures.1 in (
      both.0,
      both.1,
      rw (p.1, p.2) (second_failed basis state opened.0 both.0 _ _ _ _ opened.2.0 opened.3.goes_on opened.2.1 both.2),
      keeps_more basis state opened.0 both.0 _ _ _ opened.2.0 opened.2.1 opened.3 both.3,
    )

pub returns-clause-ends : goal.returns-clause-ends
returns-clause-ends g c basis state rows digest stands =
    let opened = c.in_ok-keep.ensures.ends basis state rows digest stands in
    let same = c.keep.ensures.setting.reporter in
    let both = c.in_ok-process_and_keep.ensures.ends basis opened.0 (rows ∙ sym (ap g.R.Reporter.row_of same)) (digest ∙ sym (ap g.R.Reporter.digest_of same)) opened.1 in
    let all_same = c.process_and_keep.ensures.setting.reporter ∙ same in
    let last = c.drain.ensures.ends basis both.0 (rows ∙ sym (ap g.R.Reporter.row_of all_same)) both.1 in (
      last.0,
      last.1,
      ends_sweep basis state opened.0 both.0 last.0 _ _ _ _ opened.2.0 opened.2.1 both.2 (GoesOn-append _ _ _ opened.3.goes_on both.3.goes_on) last.2,
      processes_behind basis state both.0 last.0 _ _ _ (keeps_more basis state opened.0 both.0 _ _ _ opened.2.0 opened.2.1 opened.3 both.3) last.3,
    )
