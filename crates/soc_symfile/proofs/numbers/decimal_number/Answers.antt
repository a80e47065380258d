use Rattle.std.proofs.Common.{◌+◌, ◌*◌, arith}
use Rattle.soc_symfile.proofs.NumberLemmas.{decimal-none, decimal-large, decimal-some, numeral-empty, numeral-at, next_digit}
use Rattle.soc_symfile.proofs.numbers.decimal_number.Goals as goal

pub returns-then-is_empty : goal.returns-then-is_empty
returns-then-is_empty c = decimal-none c.args.bytes.now (numeral-empty 10 c.args.bytes.now c.if-is_empty.ensures)

pub returns-in_default : goal.returns-in_default
returns-in_default c = decimal-none c.args.bytes.now (numeral-at 10 c.args.bytes.now c.loop-byte.byte-index (omega arith) c.in_default.ensures)

pub overflow_add-value : goal.overflow_add-value
overflow_add-value c = omega (arith, c.in-Some.ensures.1)

pub returns-then-value-from : goal.returns-then-value-from
returns-then-value-from c =
    let large = c.from-in-loop-byte.ensures in
    decimal-large c.args.bytes.now (c.loop-byte.byte-index + 1) (c.loop-byte.value * 10 + c.from.result) (omega arith)
    (next_digit 10 c.args.bytes.now c.loop-byte.byte-index c.loop-byte.value c.from.result c.in-Some.digit (omega arith) c.from.ensures c.in-Some.ensures c.loop-byte.invariant.1)

pub loop-byte-preserved : goal.loop-byte-preserved
loop-byte-preserved c =
    let large = c.from-in-loop-byte.ensures in (
      omega arith,
      next_digit 10 c.args.bytes.now c.loop-byte.byte-index c.loop-byte.value c.from.result c.in-Some.digit (omega arith) c.from.ensures c.in-Some.ensures c.loop-byte.invariant.1,
    )

pub returns : goal.returns
returns c = decimal-some c.args.bytes.now c.loop-byte.byte-index c.loop-byte.value c.if-is_empty.ensures c.loop-byte.invariant.0 (omega arith) c.loop-byte.invariant.1
