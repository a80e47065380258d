use Rattle.std.proofs.Common.{ap, sym, ◌∙◌}
use Rattle.std.specs.Prelude.{IfSome, None}
use Rattle.soc_edge.specs.Disk.{GoesOn, LeavesOnly}
use Rattle.soc_edge.specs.World.{surroundings}
use Rattle.soc_edge.proofs.Disks.{GoesOn-append}
use Rattle.soc_vault.specs.Openings.{OpeningLeaves}
use Rattle.soc_book.specs.Books.{StandsFor}
use Rattle.soc_book.proofs.Openings.{opens_over}
use Rattle.soc_export.specs.Ends.{TellsLog}
use Rattle.soc_replay.specs.Export.{ExportsJournal}
use Rattle.soc_replay.proofs.ExportLemmas.{disk_failed, exports_not, exports_told}
use Rattle.soc_replay.proofs.ServingLemmas.{moved_disk}
use Rattle.soc_replay.proofs.export.export_journal.Goals as goal

pub returns-in-Err-clause-exports : goal.returns-in-Err-clause-exports
returns-in-Err-clause-exports g c = λ outlook. exports_not _ _ _ _ _ _ c.in-Err.end (c.in-Err.ensures.refused outlook) c.in-Err.ensures.disk_cause

pub returns-clause-exports : goal.returns-clause-exports
returns-clause-exports g c = λ outlook.
    let lent = sym c.over-book.ensures.same_disk ∙ (sym c.tell_log-told.ensures.same_disk ∙ sym c.into_disk-disk.ensures.same_disk) in
    let first = c.over-book.result in
    let last = c.tell_log-told.new.book in
    let old = g.D.Disk.state c.args.disk.now in
    moved_disk (λ disk. ExportsJournal (g.R.Reporter.row_of c.args.reporter.now) (g.R.Reporter.digest_of c.args.reporter.now) c.args.limits c.args.caller.now
    (surroundings (g.K.Tells.told c.args.output.now) old outlook) (surroundings (g.K.Tells.told c.end_by.new.output) (g.D.Disk.state disk) outlook) c.end_by.result)
    (c.disk-1.given.1 lent ∙ c.into_disk-disk.ensures.disk)
    (exports_told _ _ _ _ _ (g.D.Disk.state first.vault.disk.now) (g.D.Disk.state last.vault.disk.now) (g.K.Tells.told c.tell_log-told.new.output)
    (λ basis state. StandsFor basis first state)
    (λ basis is. opens_over g.D.Disk.state c.over-book.ensures.disk (c.over-book.ensures.stands basis) (c.in-Ok.ensures.opens basis is))
    (moved_disk (λ disk. GoesOn old (g.D.Disk.state disk)) c.over-book.ensures.disk c.open.ensures.goes_on)
    (moved_disk (λ disk. IfSome old.content (λ bytes. LeavesOnly old (g.D.Disk.state disk) (OpeningLeaves old.images bytes))) c.over-book.ensures.disk c.open.ensures.any_moment)
    (g.met.D.Disk.sound first.vault.disk.now) c.tell_log-told.ensures.looks
    c.tell_log-told.result (g.K.Tells.told c.end_by.new.output) c.end_by.result
    (λ basis log row stands. moved_disk
    (λ output. TellsLog basis log c.args.caller.now (g.K.Tells.told output) (g.K.Tells.told c.tell_log-told.new.output) (g.D.Disk.state first.vault.disk.now) (g.D.Disk.state last.vault.disk.now) c.tell_log-told.result)
    (sym c.in-Ok.ensures.output) (c.tell_log-told.ensures.tells basis log (row ∙ sym (ap g.R.Reporter.row_of c.over-book.ensures.reporter)) stands))
    c.end_by.ensures.ends)

pub returns-clause-disk_cause : goal.returns-clause-disk_cause
returns-clause-disk_cause g c is =
    disk_failed _ _ _ _ _ _ c.end_by.result (returns-clause-exports g c (record { moments = λ _. None; throttles = λ _. None; ids = λ _. None })) is

pub returns-clause-goes_on : goal.returns-clause-goes_on
returns-clause-goes_on g c =
    let lent = sym c.over-book.ensures.same_disk ∙ (sym c.tell_log-told.ensures.same_disk ∙ sym c.into_disk-disk.ensures.same_disk) in
    let old = g.D.Disk.state c.args.disk.now in
    moved_disk (λ disk. GoesOn old (g.D.Disk.state disk)) (c.disk-1.given.1 lent ∙ c.into_disk-disk.ensures.disk)
    (GoesOn-append _ _ _ (moved_disk (λ disk. GoesOn old (g.D.Disk.state disk)) c.over-book.ensures.disk c.open.ensures.goes_on) c.tell_log-told.ensures.looks.goes_on)
