use Rattle.std.proofs.Common.{refl}
use Rattle.soc_journal.specs.Entries.{Entry}
use Rattle.soc_journal.proofs.Sealed.{IsSealed-built}
use Rattle.soc_journal.proofs.entry_text.EntryText.new.Goals as goal

pub invariant_of-result : goal.invariant_of-result
invariant_of-result c =
    let entry : Entry = record { kind = c.args.kind; body = c.args.body.now } in
    IsSealed-built _ _ _ _ entry refl c.in_ok-text.ensures c.in_ok-extend_from_slice.ensures.items c.in_ok-push.ensures.items (record { known = c.requires.known; short = c.requires.short })
