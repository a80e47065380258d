use Rattle.std.proofs.Common.{◌∙◌, Ok, ap, sym, arith}
use Rattle.std.proofs.lemmas.Result.{err_from_is_err_and}
use Rattle.soc_query.specs.Queries.{within_limit}
use Rattle.soc_query.proofs.QueryLemmas.{over_limit, pair_read, pair_refused, pairs_done, under_limit}
use Rattle.soc_query.proofs.draft.Draft.read.Goals as goal

pub returns-in_err-add_pair-clause-refused : goal.returns-in_err-add_pair-clause-refused
returns-in_err-add_pair-clause-refused c =
    let pairs = c.args.pairs.now in
    let p = err_from_is_err_and c.from_residual.result c.from_residual.ensures.1 in
    rw (p.1, p.2)
    (pair_refused c.loop-i.query _ (within_limit pairs) pairs 128 c.loop-i.i c.at.result.0.now c.at.result.1.now _ c.at.ensures (omega (arith, c.loop-i-test.true)) c.in_err-add_pair.ensures.refused c.loop-i.invariant)

pub loop-i-preserved : goal.loop-i-preserved
loop-i-preserved c =
    pair_read c.loop-i.query c.add_pair.new.self _ c.args.pairs.now 128 c.loop-i.i c.at.result.0.now c.at.result.1.now c.at.ensures (omega (arith, c.loop-i-test.true)) c.in_ok-add_pair.ensures.ok c.loop-i.invariant

pub returns-then-len-gt-MOST_PAIRS-clause-refused : goal.returns-then-len-gt-MOST_PAIRS-clause-refused
returns-then-len-gt-MOST_PAIRS-clause-refused c =
    let pairs = c.args.pairs.now in
    pairs_done c.loop-i.query _ (within_limit pairs) pairs 128 c.loop-i.i (omega arith) c.loop-i.invariant ∙ over_limit pairs c.loop-i.query (omega arith)

pub returns-clause-ok : goal.returns-clause-ok
returns-clause-ok c =
    let pairs = c.args.pairs.now in
    pairs_done c.loop-i.query _ (within_limit pairs) pairs 128 c.loop-i.i (omega arith) c.loop-i.invariant ∙ under_limit pairs c.loop-i.query (omega arith)
    ∙ ap Ok (sym c.in_ok-default_columns.ensures)
