use Rattle.std.proofs.Common.{sym, ◌∙◌, arith}
use Rattle.std.proofs.lemmas.Str.Parse.{digit_at}
use Rattle.soc_text.proofs.Numbers.{few_digits, next_digit, where_true, not_digit, digit_worth}
use Rattle.soc_text.proofs.digits.number.Goals as goal

pub returns-then-not-is_ascii_digit : goal.returns-then-not-is_ascii_digit
returns-then-not-is_ascii_digit c =
    λ number. not_digit _ _ c.is_ascii_digit.ensures.value c.if-not-is_ascii_digit.true
    (digit_at c.args.bytes.now c.loop-byte.byte-index number.1.1 (omega arith))

pub overflow_mul-value : goal.overflow_mul-value
overflow_mul-value c =
    let below = few_digits c.args.bytes.now c.loop-byte.byte-index (omega arith) (omega arith) c.loop-byte.invariant.1 in
    omega (arith, below, c.loop-byte.invariant.0)

pub overflow_add-value : goal.overflow_add-value
overflow_add-value c =
    let below = few_digits c.args.bytes.now c.loop-byte.byte-index (omega arith) (omega arith) c.loop-byte.invariant.1 in
    omega (arith, below, c.loop-byte.invariant.0)

pub loop-byte-preserved : goal.loop-byte-preserved
loop-byte-preserved c =
    next_digit c.args.bytes.now c.loop-byte.byte-index c.loop-byte.value c.from.result (omega arith)
    (where_true _ _ c.if-not-is_ascii_digit.false c.is_ascii_digit.ensures.bound)
    (c.from.ensures ∙ digit_worth _ (sym c.is_ascii_digit.ensures.value ∙ c.if-not-is_ascii_digit.false))
    c.loop-byte.invariant
