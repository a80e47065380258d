use Rattle.std.proofs.Common.{sym, ◌∙◌}
use Rattle.soc_book.proofs.Words.{crash_of}
use Rattle.soc_book.proofs.Recoveries.{taken_before}
use Rattle.soc_book.proofs.opening.Recovery.accept.Goals as goal

pub returns-then-is_some-clause-bad : goal.returns-then-is_some-clause-bad
returns-then-is_some-clause-bad c =
    taken_before c.args.self.now.ledger (crash_of c.in_ok-raw.raw) c.args.body.now c.number_of.result c.in_ok-raw.ensures.whole c.in_ok-raw.ensures.ok c.number_of.ensures (sym c.is_some.ensures ∙ c.if-is_some.true)
