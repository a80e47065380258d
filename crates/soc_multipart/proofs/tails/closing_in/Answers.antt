use Rattle.soc_multipart.proofs.TailLemmas.{after_in, closing_unbegun, closing_absent, closing_opening, closing_met}
use Rattle.soc_multipart.proofs.tails.closing_in.Goals as goal

pub returns-in_default : goal.returns-in_default
returns-in_default c = closing_unbegun c.args.boundary.now c.args.tail.now.bytes.items c.args.tail.now.line c.in_default.is

pub returns-in_default-delimiter_at_start : goal.returns-in_default-delimiter_at_start
returns-in_default-delimiter_at_start c =
    closing_absent c.args.boundary.now c.args.tail.now.bytes.items _ c.args.tail.now.line _ c.in-Some.is
    (after_in _ _ _ _ c.after-line.ensures c.as_slice.ensures.value) c.in_default-delimiter_at_start.ensures

pub returns-in-Opening : goal.returns-in-Opening
returns-in-Opening c =
    closing_opening c.args.boundary.now c.args.tail.now.bytes.items _ _ c.args.tail.now.line _ _ c.in-Some.is
    (after_in _ _ _ _ c.after-line.ensures c.as_slice.ensures.value) c.in-Some-delimiter_at_start.ensures c.in-Opening.is

pub returns-in-Closing : goal.returns-in-Closing
returns-in-Closing c =
    closing_met c.args.boundary.now c.args.tail.now.bytes.items _ c.args.tail.now.line _ _ c.in-Some.is
    (after_in _ _ _ _ c.after-line.ensures c.as_slice.ensures.value) c.in-Some-delimiter_at_start.ensures c.in-Closing.is
