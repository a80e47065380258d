use Rattle.std.proofs.Common.{◌≡◌, ◌-◌, length, rules}
use Rattle.soc_multipart.specs.declared.sections.Section.TheVariants.{Preamble, Closed}
use Rattle.soc_multipart.specs.OwnedViews.{owned_texts}
use Rattle.soc_multipart.specs.PartViews.{part_text}
use Rattle.soc_multipart.proofs.Basics.{match_none, match_some}
use Rattle.soc_multipart.proofs.SectionLemmas.{at_end_of, ends_bad_so, ends_content_so, ends_head_so, ends_preamble}
use Rattle.soc_multipart.proofs.sections.end_section.Goals as goal

pub returns-in-Preamble-clause-found : goal.returns-in-Preamble-clause-found
returns-in-Preamble-clause-found c = λ b body next e.
    ends_preamble b body next c.args.parts.items c.args.tail.bytes.items c.args.place
    (at_end_of b body (owned_texts c.args.parts.items) c.args.section Preamble c.args.tail.bytes.items c.args.place next c.in-Preamble.is e)

pub returns-in_default-clause-refused : goal.returns-in_default-clause-refused
returns-in_default-clause-refused c = λ b body next good e.
    let count : c.len.result ≡ length c.args.parts.items = search rules in
    let less : c.saturating_sub.result ≡ c.args.place - 2 = search rules in
    ends_bad_so b body next c.args.parts.items c.args.section c.args.tail.bytes.items _ _ c.args.place _ c.len.result c.bad_part.result
    c.in-InHead.is c.as_slice.ensures.value less c.before-piece.ensures (match_none _ _ _ c.in_ok-part-in-InHead.ensures c.in_default.is) count c.bad_part.ensures good e

pub returns-in_ok-push-in-InHead-clause-found : goal.returns-in_ok-push-in-InHead-clause-found
returns-in_ok-push-in-InHead-clause-found c = λ b body next e.
    let less : c.saturating_sub.result ≡ c.args.place - 2 = search rules in
    ends_head_so b body next c.args.parts.items c.push.new.self.items c.args.section c.args.tail.bytes.items _ _ c.args.place _ (part_text c.in-Some.part) c.in_ok-own-in-InHead.own
    c.in-InHead.is c.as_slice.ensures.value less c.before-piece.ensures (match_some _ _ _ _ c.in_ok-part-in-InHead.ensures c.in-Some.is) c.in_ok-own-in-InHead.ensures
    c.in_ok-push-in-InHead.ensures.items e

pub returns-in_ok-push-in-InContent-clause-found : goal.returns-in_ok-push-in-InContent-clause-found
returns-in_ok-push-in-InContent-clause-found c = λ b body next e.
    let less : c.saturating_sub-in-InContent.result ≡ c.args.place - 2 = search rules in
    ends_content_so b body next c.args.parts.items c.push-in-InContent.new.self.items c.args.section c.in-InContent.head c.args.tail.bytes.items c.truncate.new.self.items c.from.result c.args.place _
    c.with_content-whole.result c.in-InContent.is less c.truncate.ensures.items c.from.ensures c.with_content-whole.ensures c.in_ok-push-in-InContent.ensures.items e

pub returns-in-Closed-clause-found : goal.returns-in-Closed-clause-found
returns-in-Closed-clause-found c = λ b body next e.
    absurd (at_end_of b body (owned_texts c.args.parts.items) c.args.section Closed c.args.tail.bytes.items c.args.place next c.in-Closed.is e)
