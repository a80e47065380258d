use Rattle.std.proofs.Common.{◌++◌}
use Rattle.soc_multipart.specs.OwnedViews.{owned_texts}
use Rattle.soc_multipart.proofs.SectionLemmas.{ended_so, grown_so, line_changes, stands_closed}
use Rattle.soc_multipart.proofs.sections.fed_line.Goals as goal

pub returns-then-is_closed-clause-found : goal.returns-then-is_closed-clause-found
returns-then-is_closed-clause-found c = λ fed h. record {
  good = h.good;
  stands =
      stands_closed c.args.boundary.now fed c.args.bytes.now (owned_texts c.args.state.parts.items) c.args.state.section c.args.state.tail.bytes.items c.args.state.tail.line
      c.if-is_closed.ensures h.stands;
}

pub returns-then-ended-clause-found : goal.returns-then-ended-clause-found
returns-then-ended-clause-found c = λ fed h.
    c.end_line.ensures.found (fed ++ c.args.bytes.now) c.if-is_closed.ensures
    (record {
      good = h.good;
      stands =
          ended_so c.args.boundary.now fed c.args.bytes.now c.args.state.tail.bytes.items c.in_ok-tail.tail.bytes.items c.args.state.tail.line c.in_ok-tail.tail.line
          (owned_texts c.args.state.parts.items) c.args.state.section c.args.ended c.requires c.if-ended.true c.in_ok-tail.ensures.bytes c.in_ok-tail.ensures.line h.stands;
    })

pub returns-then-ended-clause-refused : goal.returns-then-ended-clause-refused
returns-then-ended-clause-refused c = λ fed h.
    c.end_line.ensures.refused (fed ++ c.args.bytes.now) c.if-is_closed.ensures
    (record {
      good = h.good;
      stands =
          ended_so c.args.boundary.now fed c.args.bytes.now c.args.state.tail.bytes.items c.in_ok-tail.tail.bytes.items c.args.state.tail.line c.in_ok-tail.tail.line
          (owned_texts c.args.state.parts.items) c.args.state.section c.args.ended c.requires c.if-ended.true c.in_ok-tail.ensures.bytes c.in_ok-tail.ensures.line h.stands;
    })

pub returns-clause-found : goal.returns-clause-found
returns-clause-found c = λ fed h.
    c.judge_head.ensures.found c.args.boundary.now (fed ++ c.args.bytes.now)
    (record {
      good = h.good;
      stands =
          line_changes c.args.boundary.now (fed ++ c.args.bytes.now) (owned_texts c.args.state.parts.items) c.args.state.section c.in_ok-tail.tail.bytes.items c.narrowed.result.bytes.items
          c.in_ok-tail.tail.line c.narrowed.result.line c.narrowed.ensures.bytes c.narrowed.ensures.watches
          (grown_so c.args.boundary.now fed c.args.bytes.now c.args.state.tail.bytes.items c.in_ok-tail.tail.bytes.items c.args.state.tail.line c.in_ok-tail.tail.line
          (owned_texts c.args.state.parts.items) c.args.state.section c.args.ended c.requires c.if-ended.false c.in_ok-tail.ensures.bytes c.in_ok-tail.ensures.line h.stands);
    })

pub returns-clause-refused : goal.returns-clause-refused
returns-clause-refused c = λ fed h.
    c.judge_head.ensures.refused c.args.boundary.now (fed ++ c.args.bytes.now)
    (record {
      good = h.good;
      stands =
          line_changes c.args.boundary.now (fed ++ c.args.bytes.now) (owned_texts c.args.state.parts.items) c.args.state.section c.in_ok-tail.tail.bytes.items c.narrowed.result.bytes.items
          c.in_ok-tail.tail.line c.narrowed.result.line c.narrowed.ensures.bytes c.narrowed.ensures.watches
          (grown_so c.args.boundary.now fed c.args.bytes.now c.args.state.tail.bytes.items c.in_ok-tail.tail.bytes.items c.args.state.tail.line c.in_ok-tail.tail.line
          (owned_texts c.args.state.parts.items) c.args.state.section c.args.ended c.requires c.if-ended.false c.in_ok-tail.ensures.bytes c.in_ok-tail.ensures.line h.stands);
    })
