use Rattle.soc_book.proofs.Standing.{adding_begins, adding_ends, adding_next, adding_one}
use Rattle.soc_book.proofs.writes.push_reports.Goals as goal

pub loop-number-init : goal.loop-number-init
loop-number-init c = adding_begins c.args.ledger.now c.args.numbers.now c.requires

pub loop-number-preserved : goal.loop-number-preserved
loop-number-preserved c =
    adding_one c.args.ledger.now c.args.numbers.now c.loop-number.ledger c.report.new.self c.loop-number.rest.now c.in-Some.number.now c.in-Some.behind.now c.in-Some.ensures.cases.0 c.report.ensures c.loop-number.invariant

pub report-requires-clause-crash : goal.report-requires-clause-crash
report-requires-clause-crash c = (adding_next c.args.ledger.now c.args.numbers.now c.loop-number.ledger c.loop-number.rest.now c.in-Some.number.now c.in-Some.behind.now c.in-Some.ensures.cases.0 c.loop-number.invariant).0

pub report-requires-clause-held : goal.report-requires-clause-held
report-requires-clause-held c = (adding_next c.args.ledger.now c.args.numbers.now c.loop-number.ledger c.loop-number.rest.now c.in-Some.number.now c.in-Some.behind.now c.in-Some.ensures.cases.0 c.loop-number.invariant).1.0

pub report-requires-clause-room : goal.report-requires-clause-room
report-requires-clause-room c = (adding_next c.args.ledger.now c.args.numbers.now c.loop-number.ledger c.loop-number.rest.now c.in-Some.number.now c.in-Some.behind.now c.in-Some.ensures.cases.0 c.loop-number.invariant).1.1

pub returns : goal.returns
returns c = adding_ends c.args.ledger.now c.args.numbers.now c.loop-number.ledger c.loop-number.rest.now c.in_default.ensures.cases c.loop-number.invariant
