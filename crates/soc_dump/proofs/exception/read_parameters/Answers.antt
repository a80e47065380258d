use Rattle.std.proofs.Common.{◌+◌, ◌*◌, ◌≤◌, ◌<◌, take, length, arith, ◌∙◌, length-set}
use Rattle.soc_dump.specs.Entries.{parameters_of}
use Rattle.soc_dump.proofs.ListLemmas.{number_read, number_set, numbers_done}
use Rattle.soc_dump.proofs.exception.read_parameters.Goals as goal

pub loop-index-preserved : goal.loop-index-preserved
loop-index-preserved c =
    let index = c.loop-index.index in
    let info = c.loop-index.info in
    let next = number_read c.args.entry.now 8 40 8 15 index (40 + index * 8) (take index info) c.read_u64.result
    c.loop-index-test.true (omega arith) c.loop-index.invariant.read c.read_u64.ensures in
    let room : index < length info = omega arith in
    record {
      all = length-set info index c.read_u64.result ∙ c.loop-index.invariant.all;
      read = number_set c.args.entry.now 8 40 8 15 index info c.read_u64.result room next;
    }

pub returns : goal.returns
unfolding parameters_of
returns c =
    let long : length c.loop-index.info ≤ c.loop-index.index = omega arith in
    numbers_done c.args.entry.now 8 40 8 15 c.loop-index.index c.loop-index.info c.loop-index.invariant.read c.loop-index-test.false long
