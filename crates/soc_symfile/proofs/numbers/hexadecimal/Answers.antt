use Rattle.std.proofs.Common.{arith}
use Rattle.soc_symfile.proofs.NumberLemmas.{hexadecimal-none, hexadecimal-long, hexadecimal-some, numeral-empty, numeral-at, next_digit, room}
use Rattle.soc_symfile.proofs.numbers.hexadecimal.Goals as goal

pub returns-then-is_empty : goal.returns-then-is_empty
returns-then-is_empty c = hexadecimal-none c.args.bytes.now (numeral-empty 16 c.args.bytes.now c.if-is_empty.ensures)

pub returns-then-bytes-gt-MOST_DIGITS : goal.returns-then-bytes-gt-MOST_DIGITS
returns-then-bytes-gt-MOST_DIGITS c = hexadecimal-long c.args.bytes.now c.if-bytes-gt-MOST_DIGITS.true

pub returns-in_default : goal.returns-in_default
returns-in_default c = hexadecimal-none c.args.bytes.now (numeral-at 16 c.args.bytes.now c.loop-byte.byte-index (omega arith) c.in_default.ensures)

pub overflow_mul-value : goal.overflow_mul-value
overflow_mul-value c =
    let small = room c.args.bytes.now c.loop-byte.byte-index c.loop-byte.value (omega arith) (omega arith) c.loop-byte.invariant in
    omega arith

pub overflow_add-value : goal.overflow_add-value
overflow_add-value c =
    let small = room c.args.bytes.now c.loop-byte.byte-index c.loop-byte.value (omega arith) (omega arith) c.loop-byte.invariant in
    omega (arith, c.in-Some.ensures.1)

pub loop-byte-preserved : goal.loop-byte-preserved
loop-byte-preserved c =
    next_digit 16 c.args.bytes.now c.loop-byte.byte-index c.loop-byte.value c.from.result c.in-Some.digit (omega arith) c.from.ensures c.in-Some.ensures
    c.loop-byte.invariant

pub returns : goal.returns
returns c = hexadecimal-some c.args.bytes.now c.loop-byte.byte-index c.loop-byte.value c.if-is_empty.ensures (omega arith) (omega arith) c.loop-byte.invariant
