use Rattle.soc_journal.proofs.Sealed.{head_built}
use Rattle.soc_journal.proofs.entry_text.head.Goals as goal

pub returns : goal.returns
returns c = head_built _ _ _ _ _ c.args.kind c.args.length c.in_ok-text.ensures.items c.in_ok-push.ensures.items c.in_ok-push-2.ensures.items c.to_le_bytes.ensures c.in_ok-extend_from_slice.ensures.items
