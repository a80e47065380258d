use Rattle.std.proofs.Common.{Some, None, refl, arith}
use Rattle.std.proofs.lemmas.Str.Pattern.{split_once_first, split_parts}
use Rattle.soc_report.proofs.SplitLemmas.{utf8_after, part_past, part_more, part_here, part_last}
use Rattle.soc_report.proofs.parts.part_at.Goals as goal

pub loop-left-init : goal.loop-left-init
loop-left-init c = record { utf8 = c.utf8.path; same = refl }

pub split_once-requires-text-self : goal.split_once-requires-text-self
split_once-requires-text-self c _ = c.loop-left.invariant.utf8

pub split_once-requires-2-text-self : goal.split_once-requires-2-text-self
split_once-requires-2-text-self c _ = c.loop-left.invariant.utf8

pub returns-in_default : goal.returns-in_default
returns-in_default c =
    part_past _ c.loop-left.rest.now c.loop-left.left c.loop-left.invariant.same c.loop-left-test.true (split_once_first 47 c.loop-left.rest.now None c.in_default.ensures.cases (omega arith))

pub loop-left-preserved : goal.loop-left-preserved
loop-left-preserved c =
    let parts = split_once_first 47 c.loop-left.rest.now (Some (c.in-Some.field-0-0, c.in-Some.others)) c.in-Some.ensures.cases (omega arith) in
    let seam = split_parts 47 c.loop-left.rest.now (Some (c.in-Some.field-0-0, c.in-Some.others)) c.in-Some.ensures.cases (omega arith) in
    record {
      utf8 = utf8_after 47 c.loop-left.rest.now c.in-Some.field-0-0.now c.in-Some.others.now c.loop-left.invariant.utf8 seam.0 (omega arith);
      same = part_more _ c.loop-left.rest.now c.in-Some.field-0-0.now c.in-Some.others.now c.loop-left.left c.loop-left.invariant.same c.loop-left-test.true parts.0 parts.1 parts.2;
    }

pub returns-in-Some-split_once : goal.returns-in-Some-split_once
returns-in-Some-split_once c =
    let parts = split_once_first 47 c.loop-left.rest.now (Some (c.in-Some-split_once.part, c.in-Some-split_once.field-0-1)) c.in-Some-split_once.ensures.cases (omega arith) in
    part_here _ c.loop-left.rest.now c.in-Some-split_once.part.now c.in-Some-split_once.field-0-1.now c.loop-left.left c.loop-left.invariant.same c.loop-left-test.false parts.0 parts.1 parts.2

pub returns-in-None-text : goal.returns-in-None-text
returns-in-None-text c = c.loop-left.invariant.utf8

pub returns-in-None : goal.returns-in-None
returns-in-None c =
    part_last _ c.loop-left.rest.now c.loop-left.left c.loop-left.invariant.same c.loop-left-test.false (split_once_first 47 c.loop-left.rest.now None c.in-None.ensures.cases (omega arith))
