use Rattle.soc_vault.proofs.Standing.{Means-looks, of_entry, gives_entry}
use Rattle.soc_vault.proofs.vault.Vault.read.Goals as goal

pub returns-clause-body : goal.returns-clause-body
returns-clause-body g c entries doubt entry means at =
    of_entry c.entry_is_one.ensures (g.D.Disk.state c.args.self.now.disk.now) c.args.self.now.journal _ _ entries doubt c.args.place entry means at c.read.ensures.body (λ bytes stands body. body entry stands)

pub returns-clause-found : goal.returns-clause-found
returns-clause-found g c = gives_entry (g.D.Disk.state c.args.self.now.disk.now).content c.args.place c.args.self.now.journal.gate c.read.result c.read.ensures.body c.read.ensures.found

pub returns-clause-entries_stay : goal.returns-clause-entries_stay
returns-clause-entries_stay g c entries doubt means =
    Means-looks (g.D.Disk.state c.args.self.now.disk.now) (g.D.Disk.state c.read.new.disk) c.args.self.now.journal entries doubt c.read.ensures.disk_stays means
