use Rattle.std.proofs.Common.{◌≢◌, ◌≤◌, ◌∙◌, ◌+◌, ◌*◌, length, drop, arith}
use Rattle.soc_dump.specs.Layout.{stream_kind}
use Rattle.soc_dump.specs.Number.{number_of}
use Rattle.soc_report.proofs.StreamLemmas.{long_header, entry_inside, one_further}
use Rattle.soc_report.proofs.streams.lists_modules.Goals as goal

pub number_at-count-requires : goal.number_at-count-requires
number_at-count-requires c = let long : 32 ≤ length c.args.bytes.now = long_header c.args.bytes.now c.requires in omega arith

pub number_at-directory-requires : goal.number_at-directory-requires
number_at-directory-requires c = let long : 32 ≤ length c.args.bytes.now = long_header c.args.bytes.now c.requires in omega arith

pub number_at-requires : goal.number_at-requires
number_at-requires c =
    entry_inside c.args.bytes.now c.number_at-directory.result c.number_at-count.result c.loop-index.index c.requires c.number_at-directory.ensures c.number_at-count.ensures c.loop-index-test.true

pub loop-index-preserved : goal.loop-index-preserved
loop-index-preserved c =
    let other : number_of (drop (c.number_at-directory.result + c.loop-index.index * 12) c.args.bytes.now) stream_kind ≢ 4 = λ e. c.if-number_at-eq-MODULE_LIST.false (c.number_at.ensures ∙ e) in
    one_further c.args.bytes.now c.number_at-directory.result c.loop-index.index c.number_at-count.result _ c.loop-index-test.true other c.loop-index.invariant
