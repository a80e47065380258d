use Rattle.soc_multipart.specs.declared.sections.Section.TheVariants.{Preamble, InHead, InContent, Closed}
use Rattle.soc_multipart.specs.OwnedViews.{owned_texts}
use Rattle.soc_multipart.specs.inner.Tails.{PassesLineIn}
use Rattle.soc_multipart.proofs.SectionLemmas.{at_section, content_passed, head_passed, preamble_passed}
use Rattle.soc_multipart.proofs.sections.pass_line.Goals as goal

pub returns-in-Preamble-clause-found : goal.returns-in-Preamble-clause-found
returns-in-Preamble-clause-found c = λ b fed h. record {
  good = h.good;
  stands =
      preamble_passed b fed (owned_texts c.args.state.parts.items) c.args.state.tail.bytes.items c.renewed.result.bytes.items c.args.state.tail.line c.renewed.result.line
      c.renewed.ensures.bytes (c.renewed.ensures.watches b)
      (at_section PassesLineIn b fed (owned_texts c.args.state.parts.items) c.args.state.section Preamble c.args.state.tail.bytes.items c.args.state.tail.line c.in-Preamble.is h.stands);
}

pub returns-in-InHead-clause-found : goal.returns-in-InHead-clause-found
returns-in-InHead-clause-found c = λ b fed h.
    c.judge_head.ensures.found b fed
    (record {
      good = h.good;
      stands =
          head_passed b fed (owned_texts c.args.state.parts.items) c.args.state.tail.bytes.items c.moved_on.result.bytes.items c.args.state.tail.line c.moved_on.result.line
          c.moved_on.ensures.bytes (c.moved_on.ensures.watches b)
          (at_section PassesLineIn b fed (owned_texts c.args.state.parts.items) c.args.state.section InHead c.args.state.tail.bytes.items c.args.state.tail.line c.in-InHead.is h.stands);
    })

pub returns-in-InHead-clause-refused : goal.returns-in-InHead-clause-refused
returns-in-InHead-clause-refused c = λ b fed h.
    c.judge_head.ensures.refused b fed
    (record {
      good = h.good;
      stands =
          head_passed b fed (owned_texts c.args.state.parts.items) c.args.state.tail.bytes.items c.moved_on.result.bytes.items c.args.state.tail.line c.moved_on.result.line
          c.moved_on.ensures.bytes (c.moved_on.ensures.watches b)
          (at_section PassesLineIn b fed (owned_texts c.args.state.parts.items) c.args.state.section InHead c.args.state.tail.bytes.items c.args.state.tail.line c.in-InHead.is h.stands);
    })

pub returns-in-InContent-clause-found : goal.returns-in-InContent-clause-found
returns-in-InContent-clause-found c = λ b fed h. record {
  good = h.good;
  stands =
      content_passed b fed (owned_texts c.args.state.parts.items) c.in-InContent.head c.args.state.tail.bytes.items c.moved_on-in-InContent.result.bytes.items c.args.state.tail.line
      c.moved_on-in-InContent.result.line c.moved_on-in-InContent.ensures.bytes (c.moved_on-in-InContent.ensures.watches b)
      (at_section PassesLineIn b fed (owned_texts c.args.state.parts.items) c.args.state.section (InContent c.in-InContent.head) c.args.state.tail.bytes.items c.args.state.tail.line c.in-InContent.is h.stands);
}

pub returns-in-Closed-clause-found : goal.returns-in-Closed-clause-found
returns-in-Closed-clause-found c = λ b fed h. record {
  good = h.good;
  stands = at_section PassesLineIn b fed (owned_texts c.args.state.parts.items) c.args.state.section Closed c.args.state.tail.bytes.items c.args.state.tail.line c.in-Closed.is h.stands;
}
