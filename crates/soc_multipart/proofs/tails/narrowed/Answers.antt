use Rattle.soc_multipart.proofs.Basics.{match_bool_no}
use Rattle.soc_multipart.proofs.TailLemmas.{after_in, narrows}
use Rattle.soc_multipart.proofs.tails.narrowed.Goals as goal

pub returns-clause-watches : goal.returns-clause-watches
returns-clause-watches c =
    narrows c.args.boundary.now c.args.tail.bytes.items _ c.args.tail.line _ c.in-Some.is (after_in _ _ _ _ c.after.ensures c.as_slice.ensures.value) c.if-may_begin.ensures
