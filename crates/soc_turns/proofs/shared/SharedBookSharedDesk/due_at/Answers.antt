use Rattle.std.proofs.Common.{sym, ◌∙◌, ap}
use Rattle.std.specs.Prelude.{slice_get}
use Rattle.soc_ledger.specs.Due.{due_ids}
use Rattle.soc_turns.proofs.Logs.{events-changes_at}
use Rattle.soc_turns.proofs.shared.SharedBookSharedDesk.due_at.Goals as goal

pub returns : goal.returns
returns g c =
    let b = c.args.self.now.book in
    c.due_in_ledger.ensures
    ∙ ap (λ l. slice_get (due_ids l) c.args.place) (sym (events-changes_at g.D.Telling.tells (g.D.Disk.state b.vault.disk.now).content b.ledger.log))
