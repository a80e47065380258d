use Rattle.std.proofs.Common.{◌≡◌, sym, ◌∙◌, ap}
use Rattle.soc_service.proofs.Asked.{row_is}
use Rattle.soc_service.proofs.Options.{of_some}
use Rattle.soc_service.proofs.Worked.{ends_finished, ends_unmade, ends_unread, may_finish}
use Rattle.soc_service.proofs.process.process.Goals as goal

pub returns-in-Err-clause-works : goal.returns-in-Err-clause-works
returns-in-Err-clause-works g c =
    ends_unread g.T.Logged g.T.SharedDesk.command_of g.T.SharedDesk.desk_of g.met.T.SharedDesk.tells _ _ _ c.fetch-seat.result.1 c.in-Err.outcome c.in-Err.ensures c.fetch-seat.ensures.fetch

pub returns-in_default-clause-works : goal.returns-in_default-clause-works
returns-in_default-clause-works g c =
    ends_unmade g.T.Logged g.T.SharedDesk.command_of g.T.SharedDesk.desk_of g.met.T.SharedDesk.tells _ _ _ c.fetch-seat.result.1 c.fetch-seat.ensures.fetch

pub finish-seat-requires-clause-may : goal.finish-seat-requires-clause-may
finish-seat-requires-clause-may g c basis known =
    may_finish g.T.Logged g.T.SharedDesk.command_of g.T.SharedDesk.desk_of g.met.T.SharedDesk.tells _ _ _ c.in-Ok.raw c.fetch-seat.result.1 c.in-Ok-make.processed
    c.in-Ok.ensures c.fetch-seat.ensures.fetch c.is_crash.ensures (ap (λ p. p.crash) c.in-Ok-make.ensures.ok)
    (λ b there. row_is (g.T.SharedDesk.desk_of b).row_of (g.R.Reporter.row_of c.args.reporter.now) c.in-Ok-make.processed _ c.in-Ok-make.ensures.ok
    (of_some (λ own. (g.T.SharedDesk.desk_of own).row_of ≡ g.R.Reporter.row_of c.args.reporter.now) _ b (sym (ap (λ k. k.basis) c.fetch-seat.ensures.fetch.turn.asked.knows) ∙ there) c.requires.reporter))
    basis known

pub returns-clause-works : goal.returns-clause-works
returns-clause-works g c =
    ends_finished g.T.Logged g.T.SharedDesk.command_of g.T.SharedDesk.desk_of g.met.T.SharedDesk.tells _ _ _ _ c.in-Ok.raw c.fetch-seat.result.1 c.finish-seat.result.1 c.in-Ok-make.processed.crash c.finished_as.result
    c.in-Ok.ensures (ap (λ p. p.crash) c.in-Ok-make.ensures.ok) c.finished_as.ensures c.fetch-seat.ensures.fetch c.finish-seat.ensures.finish
