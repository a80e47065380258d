use Rattle.std.proofs.Common.{◌∙◌}
use Rattle.soc_book.proofs.Words.{event_of, keep, events, doubted}
use Rattle.soc_book.proofs.Countings.{counts_are, size_is, waits_in_doubt}
use Rattle.soc_book.proofs.book.Book.counted.Goals as goal

pub returns-clause-of_log : goal.returns-clause-of_log
returns-clause-of_log g c = λ basis state stands.
    counts_are (events basis state.log) (doubted basis state) _
    (c.asks.ensures.of_log basis state stands) (c.crashes.ensures.of_log basis state stands) (c.due.ensures.of_log basis state stands)
    (c.reports.ensures.of_log basis state stands) (c.withdrawn.ensures.of_log basis state stands)
    (c.is_some.ensures ∙ waits_in_doubt basis state.log c.args.self.now.ledger c.args.self.now.doubt state.doubt (λ change. event_of basis (keep change)) stands.doubt)

pub returns-clause-size : goal.returns-clause-size
returns-clause-size g c = λ basis state stands is_told. c.size.ensures ∙ size_is stands is_told
