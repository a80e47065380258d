use Rattle.std.proofs.Common.{sym, ◌∙◌}
use Rattle.soc_turns.proofs.Logs.{length-changes_at}
use Rattle.soc_turns.proofs.shared.SharedBookLogged.front.Goals as goal

pub returns : goal.returns
returns g c =
    let b = c.args.self.now.book in
    c.front.ensures.count ∙ sym (length-changes_at g.D.Telling.tells (g.D.Disk.state b.vault.disk.now).content b.ledger.log)
