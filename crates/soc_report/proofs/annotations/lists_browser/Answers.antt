use Rattle.std.proofs.Common.{◌∙◌, Some, None, sym, arith}
use Rattle.std.proofs.lemmas.Str.Pattern.{split_once_first, split_parts}
use Rattle.soc_report.proofs.SplitLemmas.{utf8_after, browser_later, browser_last}
use Rattle.soc_report.proofs.annotations.lists_browser.Goals as goal

pub loop-item-preserved : goal.loop-item-preserved
loop-item-preserved c =
    let parts = split_once_first 44 c.loop-item.rest.now (Some (c.in-Some.item, c.in-Some.others)) c.in-Some.ensures.cases (omega arith) in
    let seam = split_parts 44 c.loop-item.rest.now (Some (c.in-Some.item, c.in-Some.others)) c.in-Some.ensures.cases (omega arith) in
    record {
      utf8 = utf8_after 44 c.loop-item.rest.now c.in-Some.item.now c.in-Some.others.now c.loop-item.invariant.utf8 seam.0 (omega arith);
      same = c.loop-item.invariant.same ∙ browser_later c.loop-item.rest.now c.in-Some.item.now c.in-Some.others.now parts.0 parts.1 parts.2 (sym c.if-eq.ensures);
    }

pub returns : goal.returns
returns c =
    let none = split_once_first 44 c.loop-item.rest.now None c.in_default.ensures.cases (omega arith) in
    c.eq-2.ensures ∙ sym (c.loop-item.invariant.same ∙ browser_last c.loop-item.rest.now none)
