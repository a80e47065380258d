use Rattle.std.proofs.Common.{◌≡◌, length, rules}
use Rattle.soc_multipart.proofs.SectionLemmas.{closes_body_so, opens_part_so, too_many_so}
use Rattle.soc_multipart.proofs.sections.begin_section.Goals as goal

pub returns-then-len-ge-PARTS_LIMIT-clause-refused : goal.returns-then-len-ge-PARTS_LIMIT-clause-refused
returns-then-len-ge-PARTS_LIMIT-clause-refused c = λ b fed good most m.
    let count : c.len.result ≡ length c.args.parts.items = search rules in
    too_many_so b fed c.args.parts.items c.args.kind c.len.result c.in-Opening.is count c.if-len-ge-PARTS_LIMIT.true good most m

pub returns-else-len-ge-PARTS_LIMIT-clause-found : goal.returns-else-len-ge-PARTS_LIMIT-clause-found
returns-else-len-ge-PARTS_LIMIT-clause-found c = λ b fed good most m.
    let count : c.len.result ≡ length c.args.parts.items = search rules in
    record {
      good = good;
      stands =
          opens_part_so b fed _ _ c.args.parts.items c.args.kind c.len.result c.in-Opening.is count c.if-len-ge-PARTS_LIMIT.false
          c.empty-tail.ensures.bytes c.empty-tail.ensures.line m;
    }

pub returns-in-Closing-clause-found : goal.returns-in-Closing-clause-found
returns-in-Closing-clause-found c = λ b fed good most m.
    record { good = good; stands = closes_body_so b fed c.empty-tail.result.bytes.items c.empty-tail.result.line c.args.parts.items c.args.kind c.in-Closing.is most m }
