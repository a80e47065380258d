use Rattle.std.proofs.lemmas.Result.{IfOk-weaker}
use Rattle.soc_vault.proofs.Standing.{of_entry, reads_in_body}
use Rattle.soc_vault.proofs.vault.Vault.holds.Goals as goal

pub returns-clause-holds : goal.returns-clause-holds
returns-clause-holds g c =
    IfOk-weaker c.holds.result _ _ (λ holds told entries doubt entry at skip means stands is within.
    of_entry c.entry_is_one.ensures (g.D.Disk.state c.args.self.now.disk.now) c.args.self.now.journal _ _ entries doubt at entry means stands told
    (λ bytes before reads. reads_in_body bytes at entry skip c.args.place c.args.text.now holds before.stands is within reads)) c.holds.ensures.holds
