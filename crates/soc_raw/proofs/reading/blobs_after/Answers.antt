use Rattle.std.proofs.Common.{sym, ◌∙◌, None}
use Rattle.soc_raw.specs.declared.record_error.RecordError.TheVariants.{BadRecord}
use Rattle.soc_raw.specs.inner.Reading.{blob_pair_at, pairs_at}
use Rattle.soc_raw.proofs.Readers.{started, goes_on, ends, ends_low, is_done, set_end}
use Rattle.soc_raw.proofs.reading.blobs_after.Goals as goal

pub loop-init : goal.loop-init
loop-init c = started blob_pair_at c.new-blobs.result c.args.count c.args.cursor.now c.new-blobs.ensures

pub returns-in_default : goal.returns-in_default
returns-in_default c =
    ends blob_pair_at BadRecord c.loop.blobs c.args.count c.loop.counter c.loop.cursor (pairs_at blob_pair_at None c.args.count c.args.cursor.now) c.loop-test.true c.in_default.ensures c.loop.invariant

pub returns-then-not-comes_last_of_blobs : goal.returns-then-not-comes_last_of_blobs
returns-then-not-comes_last_of_blobs c =
    ends_low blob_pair_at c.loop.blobs c.args.count c.loop.counter c.loop.cursor _ _ _ c.loop-test.true c.in-Some.ensures
    (sym c.comes_last_of_blobs.ensures.above ∙ c.if-not-comes_last_of_blobs.true) c.loop.invariant

pub loop-preserved : goal.loop-preserved
loop-preserved c =
    let above = sym c.if-not-comes_last_of_blobs.false ∙ c.comes_last_of_blobs.ensures.above in
    goes_on blob_pair_at c.loop.blobs c.set_copy.new.self c.args.count c.loop.counter c.loop.cursor _ _ _ c.loop-test.true c.in-Some.ensures above
    (c.in_ok-set_copy.ensures.ok ∙ set_end c.loop.blobs _ _ c.comes_last_of_blobs.ensures.rising (sym above)) c.loop.invariant

pub returns : goal.returns
returns c = is_done blob_pair_at c.loop.blobs c.args.count c.loop.counter c.loop.cursor (pairs_at blob_pair_at None c.args.count c.args.cursor.now) c.loop-test.false c.loop.invariant
