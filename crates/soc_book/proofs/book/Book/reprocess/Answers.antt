use Rattle.soc_book.proofs.Words.{ReprocessCrashes, Looks-none, StandsFor}
use Rattle.soc_book.proofs.Deciding.{begun_does, doesnt_begin, lacks_permission, writes_reprocess}
use Rattle.soc_book.proofs.book.Book.reprocess.Goals as goal

pub returns-in-Err-clause-does : goal.returns-in-Err-clause-does
returns-in-Err-clause-does g c basis state stands =
    (state, stands, rw c.in-Err.ensures.1 (lacks_permission (writes_reprocess basis c.args.caller.now c.args.id) stands (Looks-none _ (g.met.D.Disk.sound c.args.self.now.vault.disk.now)) ReprocessCrashes c.in-Err.ensures.0))

pub returns-in-Err-begin-clause-does : goal.returns-in-Err-begin-clause-does
returns-in-Err-begin-clause-does g c basis state stands =
    doesnt_begin (writes_reprocess basis c.args.caller.now c.args.id) stands c.begin.ensures.looks (StandsFor basis c.begin.new.self) c.in-Err-begin.refusal c.in_default.ensures (c.in-Err-begin.ensures.begins basis state stands)

pub returns-in-Ok-clause-does : goal.returns-in-Ok-clause-does
returns-in-Ok-clause-does g c basis state stands =
    begun_does (writes_reprocess basis c.args.caller.now c.args.id) stands c.begin.ensures.looks (StandsFor basis c.begin.new.self) c.in_default.ensures (c.in-Ok.ensures.begins basis state stands)
    (StandsFor basis c.reprocess_settled.new.self) (c.reprocess_settled.ensures.decided basis)
