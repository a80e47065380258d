use Rattle.std.proofs.Common.{sym}
use Rattle.soc_forms.proofs.SubmissionLemmas.{bad_json, mixed_json, says_json, the_extra, too_many_json}
use Rattle.soc_forms.proofs.submissions.fields_of.Goals as goal

pub returns-in_default-2-clause-refused : goal.returns-in_default-2-clause-refused
returns-in_default-2-clause-refused c =
    bad_json c.args.parts.now c.index-parts-place.result _
    (the_extra c.args.parts.now c.in-Some.place c.index-parts-place.result _ _ _ c.in-Some.ensures c.index-parts-place.is c.next_extra-2.ensures c.is_some.ensures c.if-is_some.false)
    c.in_ok-extra.ensures c.in_default-2.is

pub returns-then-has_plain-clause-refused : goal.returns-then-has_plain-clause-refused
returns-then-has_plain-clause-refused c =
    mixed_json c.args.parts.now c.index-parts-place.result _ c.in-Some-2.extra
    (the_extra c.args.parts.now c.in-Some.place c.index-parts-place.result _ _ _ c.in-Some.ensures c.index-parts-place.is c.next_extra-2.ensures c.is_some.ensures c.if-is_some.false)
    c.in_ok-extra.ensures c.in-Some-2.is c.if-has_plain.ensures

pub returns-then-len-gt-ANNOTATIONS_LIMIT-clause-refused : goal.returns-then-len-gt-ANNOTATIONS_LIMIT-clause-refused
returns-then-len-gt-ANNOTATIONS_LIMIT-clause-refused c =
    too_many_json c.args.parts.now c.index-parts-place.result _ c.in-Some-2.extra c.in-Some-as_object.members.now.entries c.len.result
    (the_extra c.args.parts.now c.in-Some.place c.index-parts-place.result _ _ _ c.in-Some.ensures c.index-parts-place.is c.next_extra-2.ensures c.is_some.ensures c.if-is_some.false)
    c.in_ok-extra.ensures c.in-Some-2.is (sym c.in-Some-as_object.ensures) c.if-has_plain.ensures c.len.ensures.ordered c.len.ensures.len c.if-len-gt-ANNOTATIONS_LIMIT.true

pub returns-clause-found : goal.returns-clause-found
returns-clause-found c =
    says_json c.args.parts.now c.index-parts-place.result _ c.in-Some-2.extra _ _ _
    (the_extra c.args.parts.now c.in-Some.place c.index-parts-place.result _ _ _ c.in-Some.ensures c.index-parts-place.is c.next_extra-2.ensures c.is_some.ensures c.if-is_some.false)
    c.in_ok-extra.ensures c.in-Some-2.is (sym c.in-Some-as_object.ensures) c.if-has_plain.ensures c.no_fields.ensures c.in_ok-with_members.ensures
