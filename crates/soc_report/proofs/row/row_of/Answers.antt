use Rattle.std.proofs.Common.{ℕ, sym, subst, arith}
use Rattle.soc_report.specs.inner.Known.{known_view, source_view}
use Rattle.soc_report.proofs.RowLemmas.{AllBelow, end, further, start, value_kind}
use Rattle.soc_report.proofs.row.row_of.Goals as goal

pub loop-place-init : goal.loop-place-init
loop-place-init c = start (known_view c.args.known.now) c.new-row.result c.new-row.ensures

pub put-requires-clause-kind : goal.put-requires-clause-kind
put-requires-clause-kind c =
    value_kind (known_view c.args.known.now) (source_view c.at-source.result) c.loop-place.place c.at.result c.in_ok-value.value c.in_ok-value.ensures c.at-source.ensures c.at.ensures

pub put-requires-clause-below : goal.put-requires-clause-below
put-requires-clause-below c = subst (λ (f : ℕ). AllBelow f c.loop-place.row) (sym c.at.ensures) c.loop-place.invariant.below

pub loop-place-preserved : goal.loop-place-preserved
loop-place-preserved c =
    further (known_view c.args.known.now) (source_view c.at-source.result) c.loop-place.place c.at.result c.in_ok-value.value c.loop-place.row c.in_ok-row.row c.loop-place-test.true c.in_ok-value.ensures
    c.at-source.ensures c.at.ensures c.in_ok-row.ensures c.loop-place.invariant

pub returns : goal.returns
returns c = end (known_view c.args.known.now) c.loop-place.place c.loop-place.row (omega arith) c.loop-place.invariant
