use Rattle.std.proofs.Common.{arith}
use Rattle.soc_export.proofs.KeyLemmas.{feed_missing, line_at_end, line_ends, line_full, read_more, read_on}
use Rattle.soc_export.proofs.key.read_line.Goals as goal

pub returns-then-count-eq0-clause-line : goal.returns-then-count-eq0-clause-line
returns-then-count-eq0-clause-line g c =
    line_at_end _ _ _ _ _ _ _ c.loop-filled.invariant.reads c.read_behind.ensures.front c.in_ok-count.ensures.reads
    c.loop-filled.invariant.no_feed (omega arith) c.if-count-eq0.true (c.in_ok-count.ensures.ended c.if-count-eq0.true (omega arith))

pub returns-then-count-eq0-clause-only : goal.returns-then-count-eq0-clause-only
returns-then-count-eq0-clause-only g c = read_on _ _ _ _ _ _ _ c.loop-filled.invariant.reads c.read_behind.ensures.front c.in_ok-count.ensures.reads

pub returns-then-end-filled-clause-line : goal.returns-then-end-filled-clause-line
returns-then-end-filled-clause-line g c =
    line_ends _ _ _ _ _ _ _ c.line_len-end.result c.loop-filled.invariant.reads c.read_behind.ensures.front c.in_ok-count.ensures.reads
    c.in_ok-count.ensures.count c.line_len-end.ensures c.if-end-filled.true

pub returns-then-end-filled-clause-only : goal.returns-then-end-filled-clause-only
returns-then-end-filled-clause-only g c = read_on _ _ _ _ _ _ _ c.loop-filled.invariant.reads c.read_behind.ensures.front c.in_ok-count.ensures.reads

pub returns-clause-line : goal.returns-clause-line
returns-clause-line g c =
    line_full _ _ _ _ c.loop-filled.invariant.reads c.loop-filled.invariant.no_feed c.loop-filled.invariant.within c.loop-filled-test.false

pub loop-filled-preserved : goal.loop-filled-preserved
loop-filled-preserved g c = record {
  within = c.in_ok-count.ensures.count;
  reads = read_more _ _ _ _ _ _ _ c.loop-filled.invariant.reads c.read_behind.ensures.front c.in_ok-count.ensures.reads;
  no_feed = feed_missing _ _ c.line_len-end.result c.in_ok-count.ensures.count c.line_len-end.ensures c.if-end-filled.false;
}
