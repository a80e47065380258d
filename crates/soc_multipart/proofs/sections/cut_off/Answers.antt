use Rattle.std.proofs.Common.{inl, refl, ◌≡◌, length, rules}
use Rattle.soc_multipart.proofs.SectionLemmas.{cut_bad_so, cut_content_so, cut_preamble_so}
use Rattle.soc_multipart.proofs.sections.cut_off.Goals as goal

pub returns-in-Preamble : goal.returns-in-Preamble
returns-in-Preamble c = λ b body good h. cut_preamble_so b body _ c.args.state.section c.args.state.tail.bytes.items c.in-Preamble.is good h

pub returns-in-InHead : goal.returns-in-InHead
returns-in-InHead c = λ b body good h. inl refl

pub returns-in-Ok-false : goal.returns-in-Ok-false
returns-in-Ok-false c = λ b body good h.
    let count : c.len.result ≡ length c.args.state.parts.items = search rules in
    cut_bad_so b body c.args.state.parts.items c.args.state.section c.args.state.tail.bytes.items c.as_slice.result.now c.len.result c.bad_part.result c.in-Ok-false.field-0 c.in-InHead.is
    c.as_slice.ensures.value c.in-Ok-false.ensures c.in-Ok-false.field-0-test count c.bad_part.ensures good h

pub returns-in-InContent : goal.returns-in-InContent
returns-in-InContent c = λ b body good h.
    cut_content_so b body c.args.state.parts.items c.args.state.section c.in-InContent.field-0 c.args.state.tail.bytes.items c.in-InContent.is good h
