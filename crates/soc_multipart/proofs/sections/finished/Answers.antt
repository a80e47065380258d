use Rattle.soc_multipart.specs.OwnedViews.{owned_texts}
use Rattle.soc_multipart.proofs.SectionLemmas.{finish_closed, finish_cut, finish_ends, finish_none, if_ok_weaker}
use Rattle.soc_multipart.proofs.sections.finished.Goals as goal

pub returns-then-is_closed-clause-found : goal.returns-then-is_closed-clause-found
returns-then-is_closed-clause-found c = λ fed h.
    finish_closed c.args.boundary.now fed c.args.state.parts.items c.args.state.section c.args.state.tail.bytes.items c.args.state.tail.line h.good c.if-is_closed.ensures h.stands

pub returns-in_default-clause-refused : goal.returns-in_default-clause-refused
returns-in_default-clause-refused c = λ fed h.
    c.cut_off.ensures c.args.boundary.now fed h.good
    (finish_none c.args.boundary.now fed (owned_texts c.args.state.parts.items) c.args.state.section c.args.state.tail.bytes.items c.args.state.tail.line c.if-is_closed.ensures
    c.in_default.ensures h.stands)

pub returns-clause-found : goal.returns-clause-found
returns-clause-found c = λ fed h.
    let s =
    finish_ends c.args.boundary.now fed (owned_texts c.args.state.parts.items) c.args.state.section c.args.state.tail.bytes.items c.args.state.tail.line c.in-Some.place c.if-is_closed.ensures
    c.in-Some.ensures h.stands in
    if_ok_weaker c.end_section.result _ _ (λ now k. finish_cut c.args.boundary.now fed s.0 now.items h.good k s.2) (c.end_section.ensures.found c.args.boundary.now fed s.0 s.1)

pub returns-clause-refused : goal.returns-clause-refused
returns-clause-refused c = λ fed h.
    let s =
    finish_ends c.args.boundary.now fed (owned_texts c.args.state.parts.items) c.args.state.section c.args.state.tail.bytes.items c.args.state.tail.line c.in-Some.place c.if-is_closed.ensures
    c.in-Some.ensures h.stands in
    c.end_section.ensures.refused c.args.boundary.now fed s.0 h.good s.1
