use Rattle.std.proofs.Common.{◌∙◌}
use Rattle.soc_book.proofs.Words.{made_of}
use Rattle.soc_book.proofs.Recoveries.{tells_not}
use Rattle.soc_book.proofs.opening.Recovery.report.Goals as goal

pub returns-then-not-tells-clause-bad : goal.returns-then-not-tells-clause-bad
returns-then-not-tells-clause-bad c =
    tells_not c.args.self.now.ledger (made_of c.in_ok-report.report) c.args.body.now c.in_ok-number.number c.tells.result c.in_ok-number.ensures.within
    (c.in_ok-number.ensures.id_is ∙ (c.as_bytes.ensures.value ∙ c.as_str.ensures.text)) c.tells.ensures c.if-not-tells.true c.in_ok-report.ensures.only
