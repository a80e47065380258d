use Rattle.soc_edge.proofs.Disks.{LeavesOnly-weaker}
use Rattle.soc_journal.specs.Text.{EitherText}
use Rattle.soc_vault.specs.Vaults.{StandsFor}
use Rattle.soc_vault.proofs.Standing.{IsSomeAnd_with, Means-doubt, either_stands}
use Rattle.soc_vault.proofs.vault.Vault.keep_all.Goals as goal

pub returns-clause-in_doubt : goal.returns-clause-in_doubt
returns-clause-in_doubt g c = λ is before means.
    Means-doubt (g.D.Disk.state c.append_all.new.disk) c.append_all.new.self before c.args.entries.now c.requires.some
    (IsSomeAnd_with (g.D.Disk.state c.args.self.now.disk.now).content _ means (c.append_all.ensures.in_doubt is) (λ bytes rests then. then before rests))

pub returns-clause-any_moment : goal.returns-clause-any_moment
returns-clause-any_moment g c = λ before means.
    LeavesOnly-weaker (g.D.Disk.state c.args.self.now.disk.now) (g.D.Disk.state c.append_all.new.disk) (EitherText before c.args.entries.now) (StandsFor before c.args.entries.now)
    (λ image either. either_stands before c.args.entries.now image c.requires.some either)
    (IsSomeAnd_with (g.D.Disk.state c.args.self.now.disk.now).content _ means c.append_all.ensures.any_moment (λ bytes rests then. then before rests))
