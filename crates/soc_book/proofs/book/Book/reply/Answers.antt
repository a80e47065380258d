use Rattle.std.proofs.Common.{sym, ap, subst, ◌∙◌}
use Rattle.soc_book.proofs.Words.{Command, disk_of, Does, IsPrepared, command_of}
use Rattle.soc_book.proofs.book.Book.reply.Goals as goal

pub returns-in-Submit-clause-does : goal.returns-in-Submit-clause-does
returns-in-Submit-clause-does g c basis state rows stands =
    let did = c.submit.ensures.does c.in-Submit.raw.value (subst IsPrepared c.in-Submit.is c.prepared.invariant) basis state stands in
    (did.0, did.1, subst (λ (command : Command). Does basis state (disk_of c.args.self.now) command c.submit.result did.0 (disk_of c.submit.new.self)) (ap command_of (sym c.in-Submit.is) ∙ c.prepared.view_is) did.2)

pub returns-clause-does : goal.returns-clause-does
returns-clause-does g c basis state rows stands =
    let did = c.plain_reply.ensures.does basis state rows stands in
    (did.0, did.1, subst (λ (command : Command). Does basis state (disk_of c.args.self.now) command c.plain_reply.result did.0 (disk_of c.plain_reply.new.self)) (ap command_of (sym c.in-Plain.is) ∙ c.prepared.view_is) did.2)
