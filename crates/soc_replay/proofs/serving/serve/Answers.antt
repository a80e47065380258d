use Rattle.std.proofs.Common.{◌≡◌, ap, refl, sym, ◌∙◌}
use Rattle.std.specs.Prelude.{None}
use Rattle.soc_edge.specs.Ahead.{outlook}
use Rattle.soc_edge.specs.Disk.{GoesOn}
use Rattle.soc_book.specs.Books.{StandsFor}
use Rattle.soc_book.proofs.Openings.{opens_over}
use Rattle.soc_edge.specs.World.{surroundings}
use Rattle.soc_replay.proofs.ServingLemmas.{from_streams, kept_along, keep_cause, moved_disk, opens_cause, runs_not, served_on, serves_journal}
use Rattle.soc_replay.proofs.serving.serve.Goals as goal

pub returns-in-Err-clause-runs : goal.returns-in-Err-clause-runs
returns-in-Err-clause-runs g c = runs_not _ _ _ c.in-Err.end (c.in-Err.ensures.refused _)

pub returns-in-Err-clause-cause : goal.returns-in-Err-clause-cause
returns-in-Err-clause-cause g c = opens_cause _ _ c.in-Err.end (c.in-Err.ensures.refused (record { moments = λ _. None; throttles = λ _. None; ids = λ _. None })) c.in-Err.ensures.cause

pub returns-clause-runs : goal.returns-clause-runs
returns-clause-runs g c =
    let kept : c.session-end.new.desk.vault.disk.ghost_name ≡ c.over-book.result.vault.disk.ghost_name =
    kept_along _ (λ book. book.vault.disk.ghost_name ≡ c.over-book.result.vault.disk.ghost_name) (λ desk desk' command receipt asked same. asked.0.same_disk ∙ same)
    c.session-end.ensures.serves.responses c.over-book.result c.session-end.new.desk c.session-end.ensures.serves.runs refl in
    let lent = sym c.over-book.ensures.same_disk ∙ (sym kept ∙ (sym c.keep_after-keeping.ensures.same_disk ∙ sym c.into_disk-disk.ensures.same_disk)) in
    served_on g.D.Disk.state _ c.keep_after-keeping.new.book.vault.disk.now (c.disk-1.given.1 lent ∙ c.into_disk-disk.ensures.disk) _ _ (g.X.Tells.told c.session-end.new.link) _ _ _
    (serves_journal _ (λ book. g.D.Disk.state book.vault.disk.now) (λ book. g.met.D.Disk.sound book.vault.disk.now)
    (g.R.Reporter.row_of c.args.purpose.now.reporter.now) (g.R.Reporter.digest_of c.args.purpose.now.reporter.now)
    (λ book. book.reporter.now ≡ c.args.purpose.now.reporter.now)
    (λ book basis state. StandsFor basis book state)
    (λ desk desk' command receipt asked same. (asked.0.reporter ∙ same, λ basis state rows stands. asked.1 basis state (rows ∙ sym (ap g.R.Reporter.row_of same)) stands))
    c.args.purpose.now.setup.now (g.S.Stacks.stack_of c.args.purpose.now.stacks.now)
    (surroundings (g.X.Tells.told c.args.streams.now) (g.D.Disk.state c.args.disk.now) (outlook (g.C.Clock.told c.args.clock.now) (g.W.Draws.told c.args.draws.now)))
    (surroundings (g.X.Tells.told c.session-end.new.link) (g.D.Disk.state c.keep_after-keeping.new.book.vault.disk.now) (outlook (g.C.Clock.told c.session-end.new.clock) (g.W.Draws.told c.session-end.new.draws)))
    c.over-book.result c.session-end.new.desk c.session-end.result c.keep_after-keeping.result _
    c.over-book.ensures.reporter
    (λ basis is. opens_over g.D.Disk.state c.over-book.ensures.disk (c.over-book.ensures.stands basis) (c.in-Ok-open.ensures.opens basis is))
    (moved_disk (λ disk. GoesOn (g.D.Disk.state c.args.disk.now) (g.D.Disk.state disk)) c.over-book.ensures.disk c.open.ensures.goes_on)
    (from_streams g.X.Tells.told _ _ c.over-book.result _ _ _ _ c.in-Ok-open.ensures.output c.session-end.ensures.serves)
    (λ same basis state rows digest stands. c.keep_after-keeping.ensures.keeps basis state (rows ∙ sym (ap g.R.Reporter.row_of same)) (digest ∙ sym (ap g.R.Reporter.digest_of same)) stands)
    c.keep_after-keeping.ensures.where_ended)

pub returns-clause-goes_on : goal.returns-clause-goes_on
returns-clause-goes_on g c = (returns-clause-runs g c).goes_on

pub returns-clause-disk_cause : goal.returns-clause-disk_cause
returns-clause-disk_cause g c is = keep_cause _ _ _ _ _ (returns-clause-runs g c) is
