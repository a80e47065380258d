use Rattle.std.proofs.Common.{length, ◌∙◌}
use Rattle.soc_edge.proofs.Disks.{MayTear-then-looks}
use Rattle.soc_journal.proofs.Stops.{WhereTold-written}
use Rattle.soc_journal.proofs.writing.write_and_sync.Goals as goal

pub returns-clause-torn : goal.returns-clause-torn
returns-clause-torn g c =
    WhereTold-written (g.D.Disk.state c.args.disk.now).content (g.D.Disk.state c.sync.new.self).content c.args.place c.args.bytes.now
    (c.sync.ensures.looks.same ∙ c.in_ok-write_at.ensures.written)

pub returns-clause-tears : goal.returns-clause-tears
returns-clause-tears g c = MayTear-then-looks c.args.place (length c.args.bytes.now) _ _ _ c.write_at.ensures.tears c.sync.ensures.looks
