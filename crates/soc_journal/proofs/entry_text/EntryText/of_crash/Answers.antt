use Rattle.std.proofs.Common.{refl}
use Rattle.soc_raw.specs.RawCrash.{record_text}
use Rattle.soc_journal.specs.Entries.{Entry, accept_kind}
use Rattle.soc_journal.proofs.Sealed.{IsSealed-built}
use Rattle.soc_journal.proofs.entry_text.EntryText.of_crash.Goals as goal

pub invariant_of-result : goal.invariant_of-result
invariant_of-result c =
    let entry : Entry = record { kind = accept_kind; body = record_text c.args.raw.now } in
    IsSealed-built _ _ _ _ entry c.record_len.ensures c.in_ok-text.ensures c.in_ok-encode_into.ensures.ok c.in_ok-push.ensures.items (record { known = refl; short = c.is_crash.ensures.fits })
