use Rattle.soc_multipart.proofs.TailLemmas.{after_in, delimiter_unbegun, delimiter_absent, delimiter_met}
use Rattle.soc_multipart.proofs.tails.delimiter_in.Goals as goal

pub returns-in_default : goal.returns-in_default
returns-in_default c = delimiter_unbegun c.args.boundary.now c.args.tail.now.bytes.items c.args.tail.now.line c.in_default.is

pub returns-in_default-delimiter_at_start : goal.returns-in_default-delimiter_at_start
returns-in_default-delimiter_at_start c =
    delimiter_absent c.args.boundary.now c.args.tail.now.bytes.items _ c.args.tail.now.line _ c.in-Some.is
    (after_in _ _ _ _ c.after-line.ensures c.as_slice.ensures.value) c.in_default-delimiter_at_start.ensures

pub returns : goal.returns
returns c =
    delimiter_met c.args.boundary.now c.args.tail.now.bytes.items _ c.args.tail.now.line _ _ _ c.in-Some.is
    (after_in _ _ _ _ c.after-line.ensures c.as_slice.ensures.value) c.in-Some-delimiter_at_start.ensures c.kind_of.ensures
