use Rattle.std.proofs.Common.{◌≤◌, length, arith}
use Rattle.soc_http.proofs.CountLemmas.{fields-few, whole-length}
use Rattle.soc_http.proofs.block.parse_whole.Goals as goal

pub returns-in_default : goal.returns-in_default
returns-in_default c = λ request reads.
    let few : length request.fields ≤ 64 = fields-few _ _ reads c.requires.few in
    let room : length request.fields ≤ length c.args.headers.now = omega arith in
    let found = rw c.in-Ok-Complete.field-0-is at (c.in-Ok-Complete.ensures.found request _ reads room) in
    c.if-spans-block.false (whole-length _ _ _ reads found.len)

pub returns-in_default-3 : goal.returns-in_default-3
returns-in_default-3 c = λ request reads.
    let few : length request.fields ≤ 64 = fields-few _ _ reads c.requires.few in
    let room : length request.fields ≤ length c.args.headers.now = omega arith in
    rw c.in_default.is at (c.parse_request.ensures.found request _ reads room)
