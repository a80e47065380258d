use Rattle.std.proofs.lemmas.Result.{err_from_is_err_and}
use Rattle.soc_multipart.specs.OwnedViews.{owned_texts}
use Rattle.soc_multipart.proofs.SectionLemmas.{met_parts, met_refusal, stands_passed}
use Rattle.soc_multipart.proofs.sections.end_line.Goals as goal

pub returns-in_default-clause-found : goal.returns-in_default-clause-found
returns-in_default-clause-found c = λ fed ne h.
    c.pass_line.ensures.found c.args.boundary.now fed
    (record {
      good = h.good;
      stands =
          stands_passed c.args.boundary.now fed (owned_texts c.args.state.parts.items) c.args.state.section c.args.state.tail.bytes.items c.args.state.tail.line
          (λ before w. c.in_default.ensures before h.good w) h.stands;
    })

pub returns-in_default-clause-refused : goal.returns-in_default-clause-refused
returns-in_default-clause-refused c = λ fed ne h.
    c.pass_line.ensures.refused c.args.boundary.now fed
    (record {
      good = h.good;
      stands =
          stands_passed c.args.boundary.now fed (owned_texts c.args.state.parts.items) c.args.state.section c.args.state.tail.bytes.items c.args.state.tail.line
          (λ before w. c.in_default.ensures before h.good w) h.stands;
    })

pub returns-in_err-parts-clause-refused : goal.returns-in_err-parts-clause-refused
returns-in_err-parts-clause-refused c = λ fed ne h.
    let p = err_from_is_err_and c.from_residual.result c.from_residual.ensures.1 in
    rw (p.1, p.2)
    (met_refusal c.args.boundary.now fed c.args.state.parts.items c.args.state.section c.args.state.tail.bytes.items c.args.state.tail.line c.in-Some.met.place c.in-Some.met.kind
    c.in_err-parts.field-0.0 h.good ne c.in-Some.ensures c.in_err-parts.ensures.refused h.stands)

pub returns-clause-found : goal.returns-clause-found
returns-clause-found c = λ fed ne h.
    let m =
    met_parts c.args.boundary.now fed c.args.state.parts.items c.in_ok-parts.parts.items c.args.state.section c.args.state.tail.bytes.items c.args.state.tail.line c.in-Some.met.place
    c.in-Some.met.kind h.good ne c.in-Some.ensures c.in_ok-parts.ensures.found h.stands in
    c.begin_section.ensures.found c.args.boundary.now fed h.good m.0 m.1

pub returns-clause-refused : goal.returns-clause-refused
returns-clause-refused c = λ fed ne h.
    let m =
    met_parts c.args.boundary.now fed c.args.state.parts.items c.in_ok-parts.parts.items c.args.state.section c.args.state.tail.bytes.items c.args.state.tail.line c.in-Some.met.place
    c.in-Some.met.kind h.good ne c.in-Some.ensures c.in_ok-parts.ensures.found h.stands in
    c.begin_section.ensures.refused c.args.boundary.now fed h.good m.0 m.1
