use Rattle.std.proofs.Common.{sym, ◌∙◌}
use Rattle.std.specs.Prelude.{IfSome, None}
use Rattle.soc_schema.specs.Reports.{bare_row}
use Rattle.soc_edge.specs.Disk.{GoesOn, LeavesOnly}
use Rattle.soc_vault.specs.Openings.{OpeningLeaves}
use Rattle.soc_book.specs.Books.{StandsFor}
use Rattle.soc_book.specs.Openings.{IsBasisOf}
use Rattle.soc_book.proofs.Openings.{opens_over}
use Rattle.soc_replay.specs.declared.check.Counts.{Counts}
use Rattle.soc_edge.specs.World.{surroundings}
use Rattle.soc_replay.specs.inner.Checking.{TellsCounts, counts_of}
use Rattle.soc_replay.proofs.CheckLemmas.{checks_by, checks_not}
use Rattle.soc_replay.proofs.ServingLemmas.{moved_disk}
use Rattle.soc_replay.proofs.check.check.Goals as goal

pub returns-in-Err-clause-checks : goal.returns-in-Err-clause-checks
returns-in-Err-clause-checks g c = λ outlook. checks_not _ _ c.in-Err.end (c.in-Err.ensures.refused outlook)

pub returns-clause-checks : goal.returns-clause-checks
returns-clause-checks g c = λ outlook.
    let lent = sym c.over-book.ensures.same_disk ∙ sym c.into_disk-disk.ensures.same_disk in
    let book = c.over-book.result in
    let counts : Counts = record { crashes = c.crashes.result; asks = c.asks.result; due = c.due.result; withdrawn = c.withdrawn.result } in
    checks_by (λ basis state. StandsFor basis book state) counts
    c.crashes.ensures.of_log c.asks.ensures.of_log c.due.ensures.of_log c.withdrawn.ensures.of_log
    g.D.Disk.state _ book.vault.disk.now (c.disk-1.given.1 lent ∙ c.into_disk-disk.ensures.disk)
    (surroundings (g.K.Tells.told c.args.output.now) (g.D.Disk.state c.args.disk.now) outlook) (g.K.Tells.told c.tell_counts.new.output) c.tell_counts.result
    (λ basis is. opens_over g.D.Disk.state c.over-book.ensures.disk (c.over-book.ensures.stands basis) (c.in-Ok.ensures.opens basis (moved_disk (λ limits. IsBasisOf bare_row None limits (g.D.Disk.state c.args.disk.now).content basis) c.check_limits-limits.ensures is)))
    (moved_disk (λ disk. GoesOn (g.D.Disk.state c.args.disk.now) (g.D.Disk.state disk)) c.over-book.ensures.disk c.open.ensures.goes_on)
    (moved_disk (λ disk. IfSome (g.D.Disk.state c.args.disk.now).content (λ bytes. LeavesOnly (g.D.Disk.state c.args.disk.now) (g.D.Disk.state disk) (OpeningLeaves (g.D.Disk.state c.args.disk.now).images bytes))) c.over-book.ensures.disk c.open.ensures.any_moment)
    (moved_disk (λ output. TellsCounts (g.K.Tells.told output) (g.K.Tells.told c.tell_counts.new.output) (counts_of counts) c.tell_counts.result) (sym c.in-Ok.ensures.output) c.tell_counts.ensures.tells)
