use Rattle.std.proofs.Common.{◌∙◌, sym, arith}
use Rattle.std.proofs.lemmas.List.{take_all, take_more}
use Rattle.soc_dump.specs.Entries.{units}
use Rattle.soc_dump.proofs.Utf16Lemmas.{units-length}
use Rattle.soc_dump.proofs.utf16.units_of.Goals as goal

pub loop-index-preserved : goal.loop-index-preserved
loop-index-preserved c =
    let found = units c.args.bytes.now in
    let count = units-length c.args.bytes.now in
    let more = take_more found c.loop-index.index 0 (omega (arith, count, c.loop-index-test.true)) in
    rw (c.in_ok-push.ensures.items, c.loop-index.invariant, c.unit_at.ensures) (sym more)

pub returns : goal.returns
returns c =
    let count = units-length c.args.bytes.now in
    let whole = take_all c.loop-index.index (units c.args.bytes.now) (omega (arith, count, c.loop-index-test.false)) in
    c.loop-index.invariant ∙ whole
